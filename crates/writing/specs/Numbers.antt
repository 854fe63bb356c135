-- One number, written into a block.
-- Assumes nothing.
use Rattle.std.specs.Prelude.{List, ◌++◌, ℕ, ◌+◌, take, drop}
use Rattle.definitions.specs.Fields.{u16_bytes}

-- n stands in the two bytes from `at` on, and every other byte is as it was
unfoldable pub with_u16 : ℕ → ℕ → List ℕ → List ℕ
with_u16 at n block = take at block ++ (u16_bytes n ++ drop (at + 2) block)
