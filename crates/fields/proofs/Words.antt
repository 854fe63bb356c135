-- A word and its two halves.
-- Assumes nothing.
use mathlib.Core.Path.{◌≡◌}
use mathlib.Core.List.{List}
use Prim.Native.Nat.{ℕ, ◌+◌, ◌*◌}
use native.Mathlib.Omega.{arith}
use Rattle.definitions.specs.Fields.{u16_at, u32_at}
use Rattle.fields.specs.Words.{number, u64_at}

module _ (block : List ℕ) (at : ℕ) where
  -- a word is made of two halves
  pub word_halves : u64_at block at ≡ u32_at block at + 4294967296 * u32_at block (at + 4)
  unfolding u64_at number u32_at u16_at
  word_halves =
      let a0 : at + 0 ≡ at = omega arith in
      let a3 : at + 2 + 1 ≡ at + 3 = omega arith in
      let a5 : at + 4 + 1 ≡ at + 5 = omega arith in
      let a7 : at + 4 + 2 + 1 ≡ at + 7 = omega arith in
      let a6 : at + 4 + 2 ≡ at + 6 = omega arith in
      rw (a0, a7, a6, a5, a3) (omega arith)
