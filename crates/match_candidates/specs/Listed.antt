-- The numbers of which a test holds: the next one, and all of them in ascending order.
-- Assumes nothing.
use Rattle.std.specs.Prelude.{◌≡◌, Bool, true, false, List, ℕ, ◌<◌, ◌≤◌, max, length, get_or}
use Rattle.definitions.specs.Graph.{slot_limit}

-- r is the lowest number from `from` on, and below `end`, of which p holds; where there is none, r is `from` or `end`, whichever is greater
pub record NextFrom (p : ℕ → Bool) (from end r : ℕ) : Type 0 where
  pub begun : from ≤ r
  pub near : r ≤ max from end
  pub holds : r < end → p r ≡ true
  pub passed : (k : ℕ) → from ≤ k → k < r → p k ≡ false

-- the first `count` elements are the numbers below n of which p holds, in ascending order
pub record Listed (p : ℕ → Bool) (n : ℕ) (list : List ℕ) (count : ℕ) : Type 0 where
  pub size : length list ≡ slot_limit
  pub few : count ≤ n
  pub below : (i : ℕ) → i < count → get_or list i 0 < n
  pub holds : (i : ℕ) → i < count → p (get_or list i 0) ≡ true
  pub ascending : (i k : ℕ) → i < k → k < count → get_or list i 0 < get_or list k 0
  pub every : (v : ℕ) → v < n → p v ≡ true → (i : ℕ) × (i < count) × (get_or list i 0 ≡ v)
