-- What a search keeps that tries one rule after the other: of two matches, the one whose output images come first.
-- Assumes nothing.
use Rattle.std.specs.Prelude.{Bool, true, false, cond, ◌&&◌, ◌||◌, List, [], ◌∷◌, ℕ, eqb, ltb}
use Rattle.std.proofs.Math.Option.{Option, none, some}
use Rattle.definitions.specs.Match.{output_images}
use Rattle.definitions.specs.Widths.{Found}

-- what computes NotAfter: the first place that differs decides
unfoldable pub not_after : List ℕ → List ℕ → Bool
not_after [] ys = true
not_after (x ∷ xs) [] = false
not_after (x ∷ xs) (y ∷ ys) = ltb x y || eqb x y && not_after xs ys

-- the output images of what was found
abbrev pub found_outputs : Found → List ℕ
found_outputs f = output_images f.rule f.images

-- of what two searches have found, what comes first; of equal ones, the first search's
unfoldable pub earlier : Option Found → Option Found → Option Found
earlier none other = other
earlier (some f) none = some f
earlier (some f) (some h) = cond (not_after (found_outputs f) (found_outputs h)) (some f) (some h)
