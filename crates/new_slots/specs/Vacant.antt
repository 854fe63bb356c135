-- The free slots as a list.
-- Assumes nothing.
use Rattle.std.specs.Prelude.{◌≡◌, Bool, false, List, ℕ, ◌<◌, length, get_or}
use Rattle.definitions.specs.Lists.{filter, range}
use Rattle.definitions.specs.Graph.{unused_place}
use Rattle.definitions.specs.Rule.{side_capacity}

-- those of the first n slots that are marked, lowest first
unfoldable pub marked : List Bool → ℕ → List ℕ
marked marks n = filter (λ k. get_or marks k false) (range 0 n)

-- how many free slots there are, and the lowest of them, as many as there are places
pub record Lowest (free : List ℕ) (count : ℕ) (slots : List ℕ) : Type 0 where
  pub counted : count ≡ length free
  pub size : length slots ≡ side_capacity
  pub each : (t : ℕ) → t < side_capacity → get_or slots t unused_place ≡ get_or free t unused_place
