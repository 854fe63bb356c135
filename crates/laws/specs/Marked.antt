-- What an array of marks holds, one for each slot.
-- Assumes nothing.
use Rattle.std.specs.Prelude.{◌≡◌, Bool, false, List, ℕ, ◌<◌, length, get_or}
use Rattle.definitions.specs.Graph.{slot_limit}

-- a mark for each of the first n slots, that says whether the test holds of it
pub record Marked (test : ℕ → Bool) (n : ℕ) (marks : List Bool) : Type 0 where
  pub size : length marks ≡ slot_limit
  pub each : (k : ℕ) → k < n → get_or marks k false ≡ test k
