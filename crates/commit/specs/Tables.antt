-- How far a block holds the table that is to be committed.
-- Assumes nothing.
use Rattle.std.specs.Prelude.{◌≡◌, List, ℕ, length, take}

-- the graph's first n bytes are the table's, and it is as long
pub record Committed (n : ℕ) (graph table : List ℕ) : Type 0 where
  pub size : length graph ≡ length table
  pub front : take n graph ≡ take n table
