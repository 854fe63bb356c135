-- Unused places are defined by their bytes. For bytes that is the paper's wording: a 16-bit place holds 65535, and a 32-bit place
-- holds 0, exactly where each of its bytes does what `filled` asks.
-- Assumes nothing.
use mathlib.Core.Path.{◌≡◌}
use mathlib.Core.List.{List}
use mathlib.Core.Logic.{◌↔◌}
use Prim.Native.Nat.{ℕ, ◌+◌, ◌<◌}
use native.Mathlib.Omega.{arith}
use Rattle.definitions.specs.Fields.{byte_at, u16_at, u32_at}

module _ (block : List ℕ) (at : ℕ) where
  pub unused_place_lem : byte_at block at < 256 → byte_at block (at + 1) < 256
      → (u16_at block at ≡ 65535) ↔ ((byte_at block at ≡ 255) × (byte_at block (at + 1) ≡ 255))
  unfolding u16_at
  unused_place_lem l h = (λ e. (omega arith, omega arith), λ e. omega arith)

  pub unused_attribute : (u32_at block at ≡ 0)
      ↔ ((byte_at block at ≡ 0) × (byte_at block (at + 1) ≡ 0) × (byte_at block (at + 2) ≡ 0) × (byte_at block (at + 2 + 1) ≡ 0))
  unfolding u16_at u32_at
  unused_attribute = (λ e. (omega arith, omega arith, omega arith, omega arith), λ e. omega arith)
