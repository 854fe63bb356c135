-- Marks of the vertices that have a path to one of some vertices. A table is given by the inputs of each of its vertices, in order; it may have
-- cycles.
-- Assumes nothing.
use Rattle.std.specs.Prelude.{◌≡◌, Bool, true, ℕ}
use mathlib.Core.List.{List, Memᴰ}
use Rattle.definitions.specs.Paths.{Reads, ReachesOne}

-- The marked vertices are those: the starts are marked, what a marked vertex reads is marked, and every marked vertex has such a path.
-- A loop that marks the inputs of marked vertices until none is left keeps the first and the third, and ends with the second.
pub record Marks (inputs : ℕ → List ℕ) (starts : List ℕ) (marked : ℕ → Bool) : Type 0 where
  pub started : (v : ℕ) → Memᴰ v starts → marked v ≡ true
  pub closed : (w v : ℕ) → marked w ≡ true → Reads inputs w v → marked v ≡ true
  pub paths : (v : ℕ) → marked v ≡ true → ReachesOne inputs starts v
