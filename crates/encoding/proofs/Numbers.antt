-- The bytes of a number and the number of bytes: a field that holds a number's bytes holds the number, and the bytes of a field's
-- number are the field's.
-- Assumes nothing.
use mathlib.Core.Path.{◌≡◌, refl}
use mathlib.Core.Bool.{true}
use mathlib.Core.List.{List}
use Prim.Native.Nat.{ℕ, ◌+◌, ◌-◌, ◌/◌, ◌%◌, ◌^◌, ◌<◌}
use native.Mathlib.Nat.{add-zero, add_assoc, div-div-eq-div-mul, mod-eq_of_lt}
use native.Mathlib.Omega.{arith}
use borrow.Author.Tests.{eq-eqb, eqb-true}
use lib.Dec.{eqb}
use lib.ListN.{length, get_or}
use Rattle.definitions.specs.Fields.{byte_at, Bytes, u16_at, u32_at, filled, u16_bytes, u32_bytes}
use Rattle.laws.proofs.Lists.{all_below_every, all_below_at}
use Rattle.encoding.proofs.Pieces.{below_two, below_four}

pub length_u16 : (x : ℕ) → length (u16_bytes x) ≡ 2
unfolding u16_bytes
length_u16 x = refl

pub length_u32 : (x : ℕ) → length (u32_bytes x) ≡ 4
unfolding u32_bytes
length_u32 x = refl

-- ---- from bytes to a number

module _ (block : List ℕ) (at x : ℕ) where
  pub u16_back : ((i : ℕ) → i < 2 → byte_at block (at + i) ≡ get_or (u16_bytes x) i 0) → x < 65536 → u16_at block at ≡ x
  unfolding u16_at u16_bytes
  u16_back same l =
      let low : byte_at block at ≡ x % 256 = rw add-zero at (same 0 (omega arith)) in
      let high : byte_at block (at + 1) ≡ x / 256 % 256 = same 1 (omega arith) in
      omega arith

  pub u32_back : ((i : ℕ) → i < 4 → byte_at block (at + i) ≡ get_or (u32_bytes x) i 0) → x < 2 ^ 32 → u32_at block at ≡ x
  unfolding u16_at u32_at u32_bytes
  u32_back same l =
      let first : byte_at block at ≡ x % 256 = rw add-zero at (same 0 (omega arith)) in
      let second : byte_at block (at + 1) ≡ x / 256 % 256 = same 1 (omega arith) in
      let third : byte_at block (at + 2) ≡ x / 65536 % 256 = same 2 (omega arith) in
      let fourth : byte_at block (at + 2 + 1) ≡ x / 16777216 % 256 = rw add_assoc (same 3 (omega arith)) in
      let top : x / 16777216 < 256 = omega arith in
      omega (arith, mod-eq_of_lt top, div-div-eq-div-mul x 256 256, div-div-eq-div-mul x 65536 256)

-- ---- from a number to bytes

module _ (block : List ℕ) (bytes : Bytes block) (at : ℕ) where
  pub u16_bytes_lem : (i : ℕ) → i < 2 → get_or (u16_bytes (u16_at block at)) i 0 ≡ byte_at block (at + i)
  unfolding u16_at u16_bytes
  u16_bytes_lem =
      below_two (λ i. get_or (u16_bytes (u16_at block at)) i 0 ≡ byte_at block (at + i))
      (rw add-zero (omega (arith, bytes at, bytes (at + 1)))) (omega (arith, bytes at, bytes (at + 1)))

  pub u32_bytes_lem : (i : ℕ) → i < 4 → get_or (u32_bytes (u32_at block at)) i 0 ≡ byte_at block (at + i)
  unfolding u16_at u32_at u32_bytes
  u32_bytes_lem =
      let b₀ = bytes at in
      let b₁ = bytes (at + 1) in
      let b₂ = bytes (at + 2) in
      let b₃ = bytes (at + 2 + 1) in
      below_four (λ i. get_or (u32_bytes (u32_at block at)) i 0 ≡ byte_at block (at + i))
      (rw add-zero (omega arith)) (omega arith) (omega arith) (rw (← add_assoc at 2 1) (omega arith))

  pub u32_small : u32_at block at < 2 ^ 32
  unfolding u16_at u32_at
  u32_small = omega (arith, bytes at, bytes (at + 1), bytes (at + 2), bytes (at + 2 + 1))

-- ---- unused places

pub u16_unused : (i : ℕ) → i < 2 → get_or (u16_bytes 65535) i 0 ≡ 255
unfolding u16_bytes
u16_unused = below_two (λ i. get_or (u16_bytes 65535) i 0 ≡ 255) refl refl

pub u32_unused : (i : ℕ) → i < 4 → get_or (u32_bytes 0) i 0 ≡ 0
unfolding u32_bytes
u32_unused = below_four (λ i. get_or (u32_bytes 0) i 0 ≡ 0) refl refl refl refl

module _ (block : List ℕ) (from to value : ℕ) where
  pub filled_every : ((i : ℕ) → i < to - from → byte_at block (from + i) ≡ value) → filled block from to value ≡ true
  unfolding filled
  filled_every same =
      all_below_every (λ i. eqb (byte_at block (from + i)) value) (to - from)
      (λ i l. eq-eqb (byte_at block (from + i)) value (same i l))

  pub filled_at : filled block from to value ≡ true → (i : ℕ) → i < to - from → byte_at block (from + i) ≡ value
  unfolding filled
  filled_at h i l =
      eqb-true (byte_at block (from + i)) value
      (all_below_at (λ j. eqb (byte_at block (from + j)) value) (to - from) i h l)
