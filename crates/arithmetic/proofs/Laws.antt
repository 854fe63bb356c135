-- The operation of a form.
-- Assumes nothing.
use mathlib.Core.Path.{◌≡◌, refl}
use Prim.Native.Nat.{ℕ, zero, suc, ◌-◌, ◌≤◌}
use native.Mathlib.Omega.{arith}
use lib.ListN.{get_or}
use Rattle.definitions.specs.Rule.{operations, remainder}
use Rattle.numbers.specs.Value.{operation_of}

last : (k : ℕ) → get_or operations (suc (suc (suc (suc k)))) remainder ≡ remainder
unfolding operations
last zero = refl
last (suc k) = refl

pub remains : (form : ℕ) → 7 ≤ form → operation_of form ≡ remainder
remains form h =
    let place : form - 3 ≡ suc (suc (suc (suc (form - 7)))) = omega arith in
    rw place (last (form - 7))
