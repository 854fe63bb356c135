-- Numbers that stand in a row in a block: the inputs of a slot, its attributes, the outputs.
-- Assumes nothing.
use Rattle.std.specs.Prelude.{◌≡◌, Bool, cond, List, ℕ, ◌+◌, ◌*◌, ◌≤◌, ℤ, pos, length}
use Rattle.definitions.specs.Lists.{tabulate}
use Rattle.definitions.specs.Fields.{u16_at, u32_at, signed}
use Rattle.listing_print.specs.declared.Row.{Row}

-- a wide number is a signed one of 32 bits, and any other has 16 bits
unfoldable pub number_in : List ℕ → ℕ → Bool → ℕ → ℤ
number_in block from wide i = cond wide (signed (u32_at block (from + 4 * i))) (pos (u16_at block (from + 2 * i)))

unfoldable pub numbers_in : List ℕ → Row → List ℤ
numbers_in block row = tabulate row.count (number_in block row.from row.wide)

-- the row lies in the block, and has these numbers
pub record RowOf (block : List ℕ) (row : Row) (numbers : List ℤ) : Type 0 where
  pub inside : row.from + 4 * row.count ≤ length block
  pub same : numbers_in block row ≡ numbers
