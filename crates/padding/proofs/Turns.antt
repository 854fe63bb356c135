-- What one turn does to an array that is filled from the front.
-- Assumes nothing.
use mathlib.Core.Path.{◌≡◌, refl, ap}
use mathlib.Core.List.{List, [], ◌∷◌, map, map-id}
use Prim.Native.Nat.{ℕ, zero, suc, ◌+◌, ◌<◌}
use lib.ListN.{length, get_or, set, take, replicate}
use Rattle.definitions.specs.Lists.{padded}
use Rattle.laws.proofs.Filling.{filled_more}

module _ {A : Type 0} (rest : A) where
  -- before the first turn every place is unused
  pub padded_none : (n : ℕ) → replicate n rest ≡ padded n rest []
  unfolding padded
  padded_none zero = refl
  padded_none (suc n) = ap (λ (ys : List A). rest ∷ ys) (padded_none n)

  -- a turn stores the next element
  pub padded_more : (n : ℕ) (xs : List A) (i : ℕ) {x : A} {ys : List A} → i < n → i < length xs → x ≡ get_or xs i rest
      → ys ≡ padded n rest (take i xs) → set ys i x ≡ padded n rest (take (i + 1) xs)
  padded_more n xs i {x} {ys} l m e same =
      let as_map : ys ≡ padded n rest (map (λ (y : A). y) (take i xs)) = simp map-id same in
      simp map-id at (filled_more (λ (y : A). y) rest rest n xs i l m e as_map)
