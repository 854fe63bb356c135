-- A traversal that stays in order from here on: what a search that follows the traversal is given at each step.
-- Assumes nothing.
use Rattle.std.specs.Prelude.{◌≡◌, ℕ, suc, ◌<◌, max, length}
use mathlib.Core.List.{List, [], ◌∷◌, ◌++◌, Memᴰ}
use Rattle.definitions.specs.Lists.{foldl, range}
use Rattle.definitions.specs.Paths.{visit}
use Rattle.definitions.specs.Rule.{Rule, source_inputs}

-- Where the first `next` source vertices are visited, a visit of us goes on in order, and some later visits complete the order.
pub record InOrder (r : Rule) (next : ℕ) (us : List ℕ) : Type 0 where
  pub depth : ℕ
  pub deep : (u : ℕ) → Memᴰ u us → u < depth
  pub later : List ℕ
  pub order : foldl (visit (source_inputs r) depth) (range 0 next) us ++ later ≡ range 0 (length r.source)

-- how many vertices are visited then: a vertex that is not among the first `next` comes after all that are below it
unfoldable pub visited_after : ℕ → List ℕ → ℕ
visited_after next [] = next
visited_after next (u ∷ us) = visited_after (max next (suc u)) us
