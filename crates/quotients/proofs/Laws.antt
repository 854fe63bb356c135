-- What the library's quotients and remainders give, case by case of the signs.
-- Assumes nothing.
use mathlib.Core.Path.{◌≡◌, refl, sym, ap, ◌∙◌}
use Prim.Native.Nat.{ℕ, zero, suc, ◌+◌, ◌-◌, ◌/◌, ◌%◌}
use native.Mathlib.Nat.{add-div_right, add-mod_right, mod-eq_of_lt, div-eq_of_lt}
use native.Mathlib.Omega.{arith}
use borrow.Author.Tests.{ne_eqb}
use lib.Signed.{◌<ℤ◌, ◌≤ℤ◌}
use Rattle.std.proofs.lemmas.Int.{ints}
use Rattle.quotients.specs.Division.{Divides}
use lib.IntN.{ℤ, pos, negsuc, neg_ℤ, ◌-ℤ◌, ◌*ℤ◌}
use Rattle.definitions.specs.Attributes.{quotient, is_zero}
use Rattle.theory.proofs.Division.{rounds_down_positive, rounds_down_negative, remainder_positive, remainder_negative}
use Rattle.std.specs.Int.{int_div_euclid, int_rem_euclid}

-- ---- what the library's division gives

-- by a divisor above zero
euclid_down : (x : ℤ) (n : ℕ) → int_div_euclid x (pos (suc n)) ≡ quotient x (pos (suc n))
unfolding quotient
euclid_down (pos a) n = refl
euclid_down (negsuc a) n = refl

euclid_left : (x : ℤ) (n : ℕ) → int_rem_euclid x (pos (suc n)) ≡ x -ℤ pos (suc n) *ℤ quotient x (pos (suc n))
unfolding rounds_down_positive remainder_positive
euclid_left (pos a) n = sym (remainder_positive (pos a) n).2
euclid_left (negsuc a) n =
    let same : suc n - 1 - a % suc n ≡ n - a % suc n = omega arith in
    ap pos same ∙ sym (remainder_positive (negsuc a) n).2

-- by a divisor below zero, of the opposites
opposite_down : (x : ℤ) (n : ℕ) → int_div_euclid (neg_ℤ x) (pos (suc n)) ≡ quotient x (negsuc n)
unfolding quotient
opposite_down (pos zero) n =
    let none : 0 / suc n ≡ 0 = div-eq_of_lt (omega arith) in
    let few : (0 + n) / suc n ≡ 0 = div-eq_of_lt (omega arith) in
    rw (none, few)
opposite_down (pos (suc a)) n =
    let same : suc a + n ≡ a + suc n = omega arith in
    let up : (a + suc n) / suc n ≡ suc (a / suc n) = add-div_right a {k = suc n} (omega arith) ∙ omega arith in
    rw (same, up)
opposite_down (negsuc a) n = refl

opposite_left : (x : ℤ) (n : ℕ) → neg_ℤ (int_rem_euclid (neg_ℤ x) (pos (suc n))) ≡ x -ℤ negsuc n *ℤ quotient x (negsuc n)
unfolding rounds_down_negative remainder_negative
opposite_left (pos zero) n =
    let none : 0 % suc n ≡ 0 = mod-eq_of_lt (omega arith) in
    let all : (0 + n) % suc n ≡ n = mod-eq_of_lt (omega arith) ∙ omega arith in
    let same : 0 % suc n ≡ n - (0 + n) % suc n = omega (arith, none, all) in
    ap (λ (k : ℕ). neg_ℤ (pos k)) same ∙ sym (remainder_negative (pos zero) n).2
opposite_left (pos (suc a)) n =
    let around = add-mod_right a (suc n) in
    let sum : suc a + n ≡ a + suc n = omega arith in
    let same : suc n - 1 - a % suc n ≡ n - (suc a + n) % suc n = rw sum (omega (arith, around)) in
    ap (λ (k : ℕ). neg_ℤ (pos k)) same ∙ sym (remainder_negative (pos (suc a)) n).2
opposite_left (negsuc a) n = sym (remainder_negative (negsuc a) n).2

-- ---- the two together

module _ (x : ℤ) where
  pub divides-above : {y q r : ℤ} → pos 0 ≤ℤ y → (y ≡ pos 0 → ⊥) → q ≡ int_div_euclid x y → r ≡ int_rem_euclid x y → Divides x y (record { quotient = q; rest = r })
  unfolding is_zero
  divides-above {y = pos zero} at h d l = absurd (h refl)
  divides-above {y = pos (suc n)} at h d l = record { nonzero = ne_eqb (suc n) 0 (λ e. omega arith); down = d ∙ euclid_down x n; left = l ∙ euclid_left x n }
  divides-above {y = negsuc n} at h d l = absurd (omega (arith, ints))

  pub divides-below : {y q r : ℤ} → y <ℤ pos 0 → q ≡ int_div_euclid (neg_ℤ x) (neg_ℤ y) → r ≡ neg_ℤ (int_rem_euclid (neg_ℤ x) (neg_ℤ y))
      → Divides x y (record { quotient = q; rest = r })
  unfolding is_zero
  divides-below {y = pos n} under d l = absurd (omega (arith, ints))
  divides-below {y = negsuc n} under d l = record { nonzero = refl; down = d ∙ opposite_down x n; left = l ∙ opposite_left x n }
