-- Results as the code has them, and that every result is in range.
-- Assumes nothing.
use mathlib.Core.Path.{◌≡◌, refl}
use mathlib.Core.Bool.{Bool, true, false, cond}
use mathlib.Core.Logic.{⊎_elim}
use mathlib.Core.Option.{Option, none, some}
use Prim.Native.Nat.{ℕ, ◌-◌, ◌^◌}
use native.Mathlib.Omega.{arith}
use borrow.Author.Tests.{ltb-true, ltb-false, lt-ltb}
use lib.Dec.{ltb}
use lib.IntN.{ℤ, pos, negsuc, ◌+ℤ◌, ◌-ℤ◌, ◌*ℤ◌}
use Rattle.definitions.specs.Fields.{signed}
use Rattle.definitions.specs.Rule.{Operation, add, subtract, multiply, divide, remainder}
use Rattle.definitions.specs.Attributes.{in_range, fit, quotient, is_zero, operate, combine}
use Rattle.laws.proofs.Lists.{decided}
use Rattle.std.specs.declared.option.Option as language
use Rattle.std.specs.declared.option.Option.TheVariants.{None, Some}
use Rattle.std.specs.Option.{SomeIff}
use Rattle.std.specs.Int.{w32}
use Rattle.std.specs.Int.RustNames.{FitsSigned}
use Rattle.numbers.specs.Value.{value_of, bounded}

-- ---- results as the code has them

-- a number where it fits in 32 bits, and else nothing
pub fitted : (r : language.Option ℤ) (z : ℤ) → SomeIff r (FitsSigned w32 z) z → value_of r ≡ fit z
unfolding value_of fit in_range
fitted None (pos n) h = grind arith
fitted None (negsuc n) h = grind arith
fitted (Some x) (pos n) h = grind arith
fitted (Some x) (negsuc n) h = grind arith

-- ---- every result is in range

fit-bounded : (z : ℤ) → bounded (fit z) ≡ true
unfolding fit bounded
fit-bounded z =
    ⊎_elim (λ (t : in_range z ≡ true). simp t) (λ (f : in_range z ≡ false). simp f) (decided (in_range z))

unless_bounded : (b : Bool) (z : ℤ) → bounded (cond b none (fit z)) ≡ true
unfolding bounded
unless_bounded true z = refl
unless_bounded false z = fit-bounded z

pub operate-bounded : (o : Operation) (x y : ℤ) → bounded (operate o x y) ≡ true
unfolding operate
operate-bounded add x y = fit-bounded (x +ℤ y)
operate-bounded subtract x y = fit-bounded (x -ℤ y)
operate-bounded multiply x y = fit-bounded (x *ℤ y)
operate-bounded divide x y = unless_bounded (is_zero y) (quotient x y)
operate-bounded remainder x y = unless_bounded (is_zero y) (x -ℤ y *ℤ quotient x y)

pub combine-bounded : (o : Operation) (x y : Option ℤ) → bounded (combine o x y) ≡ true
unfolding combine bounded
combine-bounded o none y = refl
combine-bounded o (some x) none = refl
combine-bounded o (some x) (some y) = operate-bounded o x y

-- and so is every number of a block
low : (w : ℕ) → ltb w (2 ^ 31) ≡ true → signed w ≡ pos w
unfolding signed
low w t = simp t

high : (w : ℕ) → ltb w (2 ^ 31) ≡ false → signed w ≡ negsuc (2 ^ 32 - 1 - w)
unfolding signed
high w f = simp f

pub signed_in_range : (w : ℕ) → in_range (signed w) ≡ true
unfolding in_range
signed_in_range w =
    ⊎_elim
    (λ (t : ltb w (2 ^ 31) ≡ true). rw (low w t) (lt-ltb w (2 ^ 31) (omega (arith, ltb-true))))
    (λ (f : ltb w (2 ^ 31) ≡ false). rw (high w f) (lt-ltb (2 ^ 32 - 1 - w) (2 ^ 31) (omega (arith, ltb-false))))
    (decided (ltb w (2 ^ 31)))
