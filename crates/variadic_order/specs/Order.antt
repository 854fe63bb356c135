-- What the code keeps of a side's copies in visiting order.
-- Assumes nothing.
use Rattle.std.specs.Prelude.{◌≡◌, cond, List, ℕ, suc, ◌+◌, ◌*◌, ◌<◌, ◌≤◌, length, get_or, take}
use Rattle.definitions.specs.Lists.{member, position}
use Rattle.definitions.specs.Rule.{side_limit}
use Rattle.definitions.specs.VariadicBlock.{field_limit, expanded_limit}

-- copies are below this: the index is at most 6
abbrev pub copy_numbers : ℕ
copy_numbers = side_limit * (field_limit + 1)

-- one more than the number of copy c, or 0 where it has none
unfoldable pub number_in : List ℕ → ℕ → ℕ
number_in order c = cond (member c order) (suc (position c order)) 0

-- `order` is the first `count` of `copies`, and `numbers` has the number of every copy; or the order has more copies than a fixed rule may
-- have, and count is one more than those.
pub record Ordered (order copies numbers : List ℕ) (count : ℕ) : Type 0 where
  pub copies_size : length copies ≡ expanded_limit
  pub numbers_size : length numbers ≡ copy_numbers
  pub bound : count ≤ expanded_limit + 1
  pub whole : count ≤ expanded_limit → take count copies ≡ order
  pub numbered : count ≤ expanded_limit → (c : ℕ) → c < copy_numbers → get_or numbers c 0 ≡ number_in order c
  pub over : expanded_limit < count → expanded_limit < length order
