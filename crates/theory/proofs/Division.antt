-- Division of whole numbers: the definitions' `quotient` is rounded down, and what it leaves is the remainder.
-- Assumes nothing.
use mathlib.Core.Path.{◌≡◌, refl, sym, ap, ◌∙◌}
use Prim.Native.Nat.{ℕ, zero, suc, ◌+◌, ◌-◌, ◌*◌, ◌/◌, ◌%◌, ◌<◌}
use native.Mathlib.Nat.{div-add-mod, mod-lt, mul-add-div, div-eq_of_lt}
use native.Mathlib.Omega.{arith}
use borrow.Author.Tests.{lt-ltb, le-ltb}
use lib.IntN.{ℤ, pos, negsuc, neg_ℤ, ◌+ℤ◌, ◌-ℤ◌, ◌*ℤ◌, +ℤ_comm, +ℤ-neg_ℤ_cancel, neg_ℤ-+ℤ, neg_ℤ-neg_ℤ, pos-ne-negsuc}
use Rattle.definitions.specs.Attributes.{quotient}

-- ---- sums and differences of numbers with a sign

-- c - k, where that is a
pub pos_minus : (c k a : ℕ) → c ≡ a + k → pos a ≡ pos c +ℤ neg_ℤ (pos k)
pos_minus c zero a e = ap pos (omega arith)
pos_minus c (suc k) a e =
    let test = le-ltb c (suc k) (omega arith) in
    let rest : c - suc k ≡ a = omega arith in
    simp (test, rest)

-- -c + k, where that is -(a + 1)
pub neg_plus : (c k a : ℕ) → c ≡ suc a + k → negsuc a ≡ neg_ℤ (pos c) +ℤ pos k
neg_plus zero k a e = absurd (omega arith)
neg_plus (suc c) k a e =
    let test = lt-ltb k (suc c) (omega arith) in
    let rest : suc c - suc k ≡ a = omega arith in
    simp (test, rest)

-- -c - k, where that is -(a + 1)
pub neg_minus : (c k a : ℕ) → suc a ≡ c + k → negsuc a ≡ neg_ℤ (pos c) +ℤ neg_ℤ (pos k)
neg_minus c k a e = ap (λ (b : ℕ). neg_ℤ (pos b)) e ∙ neg_ℤ-+ℤ (pos c) (pos k)

-- -(n + 1) times -q
pub neg_times : (n q : ℕ) → negsuc n *ℤ neg_ℤ (pos q) ≡ pos (suc n * q)
neg_times n zero = ap (λ (b : ℕ). neg_ℤ (pos b)) none ∙ ap pos (sym none)
  where
    none : suc n * zero ≡ zero
    none = omega arith
neg_times n (suc q) = refl

-- ---- division rounds down

-- By a divisor above zero, what is left is at least 0 and less than the divisor: the quotient is the greatest whole number whose
-- product with the divisor is at most x.
unfoldable pub rounds_down_positive : (x : ℤ) (n : ℕ) → (k : ℕ) × (k < suc n) × (x ≡ pos (suc n) *ℤ quotient x (pos (suc n)) +ℤ pos k)
unfolding quotient
rounds_down_positive (pos a) n = (a % suc n, mod-lt a (omega arith), ap pos (sym (div-add-mod a (suc n))))
rounds_down_positive (negsuc a) n =
    let less = mod-lt a {m = suc n} (omega arith) in (
      n - a % suc n,
      omega arith,
      neg_plus (suc n * suc (a / suc n)) (n - a % suc n) a (omega (arith, div-add-mod a (suc n))),
    )

-- By a divisor below zero, what is left is at most 0 and greater than the divisor: this quotient is rounded down too.
unfoldable pub rounds_down_negative : (x : ℤ) (n : ℕ) → (k : ℕ) × (k < suc n) × (x ≡ negsuc n *ℤ quotient x (negsuc n) +ℤ neg_ℤ (pos k))
unfolding quotient
rounds_down_negative (pos a) n =
    let less = mod-lt (a + n) {m = suc n} (omega arith) in (
      n - (a + n) % suc n,
      omega arith,
      rw (neg_times n ((a + n) / suc n))
          (pos_minus (suc n * ((a + n) / suc n)) (n - (a + n) % suc n) a (omega (arith, div-add-mod (a + n) (suc n)))),
    )
rounds_down_negative (negsuc a) n = (
  suc a % suc n,
  mod-lt (suc a) (omega arith),
  neg_minus (suc n * (suc a / suc n)) (suc a % suc n) a (sym (div-add-mod (suc a) (suc n))),
)

-- ---- the remainder is what that leaves

pub leaves : (x c r : ℤ) → x ≡ c +ℤ r → x -ℤ c ≡ r
leaves x c r e = ap (λ (z : ℤ). z -ℤ c) (e ∙ +ℤ_comm c r) ∙ +ℤ-neg_ℤ_cancel r c

-- By a divisor above zero, the number that `operate` takes for the remainder is at least 0 and less than the divisor.
unfoldable pub remainder_positive : (x : ℤ) (n : ℕ) → (k : ℕ) × (k < suc n) × (x -ℤ pos (suc n) *ℤ quotient x (pos (suc n)) ≡ pos k)
remainder_positive x n =
    let d = rounds_down_positive x n in
    (d.0, d.1, leaves x (pos (suc n) *ℤ quotient x (pos (suc n))) (pos d.0) d.2)

-- By a divisor below zero it is at most 0 and greater than the divisor.
unfoldable pub remainder_negative : (x : ℤ) (n : ℕ) → (k : ℕ) × (k < suc n) × (x -ℤ negsuc n *ℤ quotient x (negsuc n) ≡ neg_ℤ (pos k))
remainder_negative x n =
    let d = rounds_down_negative x n in
    (d.0, d.1, leaves x (negsuc n *ℤ quotient x (negsuc n)) (neg_ℤ (pos d.0)) d.2)

-- ---- nothing else does so

-- d times p, and a number below d more, has the quotient p by d
divided : (n k p : ℕ) → k < suc n → (suc n * p + k) / suc n ≡ p
divided n k p l = mul-add-div (omega arith) p k ∙ ap (λ (b : ℕ). p + b) (div-eq_of_lt l) ∙ omega arith

same_quotient : (n k l p q : ℕ) → k < suc n → l < suc n → suc n * p + k ≡ suc n * q + l → p ≡ q
same_quotient n k l p q below under e =
    sym (divided n k p below) ∙ ap (λ (b : ℕ). b / suc n) e ∙ divided n l q under

-- -d (p + 1) + k, for a k below d, is below zero: it is -(m + 1), where m, d p + (d - 1 - k), has the quotient p by d
below_zero : (n k p : ℕ) → k < suc n → negsuc (suc n * p + (n - k)) ≡ pos (suc n) *ℤ negsuc p +ℤ pos k
below_zero n k p l = neg_plus (suc n * suc p) k (suc n * p + (n - k)) (omega arith)

negsuc_same : {a b : ℕ} → negsuc a ≡ negsuc b → a ≡ b
negsuc_same e = cc

pos_same : {a b : ℕ} → pos a ≡ pos b → a ≡ b
pos_same e = cc

-- By a divisor above zero, no other quotient leaves a number that is at least 0 and less than the divisor.
pub positive_unique : (n k l : ℕ) (p q : ℤ) → k < suc n → l < suc n
    → pos (suc n) *ℤ p +ℤ pos k ≡ pos (suc n) *ℤ q +ℤ pos l → p ≡ q
positive_unique n k l (pos p) (pos q) below under e = ap pos (same_quotient n k l p q below under (pos_same e))
positive_unique n k l (pos p) (negsuc q) below under e =
    absurd (pos-ne-negsuc (suc n * p + k) (suc n * q + (n - l)) (e ∙ sym (below_zero n l q under)))
positive_unique n k l (negsuc p) (pos q) below under e =
    absurd (pos-ne-negsuc (suc n * q + l) (suc n * p + (n - k)) (sym e ∙ sym (below_zero n k p below)))
positive_unique n k l (negsuc p) (negsuc q) below under e =
    ap negsuc (same_quotient n (n - k) (n - l) p q (omega arith) (omega arith)
    (negsuc_same (below_zero n k p below ∙ e ∙ sym (below_zero n l q under))))

-- the same with every sign changed but the quotient's
turned : (n k : ℕ) (p : ℤ) → neg_ℤ (negsuc n *ℤ p +ℤ neg_ℤ (pos k)) ≡ pos (suc n) *ℤ p +ℤ pos k
turned n k p = neg_ℤ-+ℤ (negsuc n *ℤ p) (neg_ℤ (pos k)) ∙ rw (product p, neg_ℤ-neg_ℤ (pos k))
  where
    product : (p : ℤ) → neg_ℤ (negsuc n *ℤ p) ≡ pos (suc n) *ℤ p
    product (pos p) = neg_ℤ-neg_ℤ (pos (suc n * p))
    product (negsuc p) = refl

-- By a divisor below zero, no other quotient leaves a number that is at most 0 and greater than the divisor.
pub negative_unique : (n k l : ℕ) (p q : ℤ) → k < suc n → l < suc n
    → negsuc n *ℤ p +ℤ neg_ℤ (pos k) ≡ negsuc n *ℤ q +ℤ neg_ℤ (pos l) → p ≡ q
negative_unique n k l p q below under e =
    positive_unique n k l p q below under (sym (turned n k p) ∙ ap neg_ℤ e ∙ turned n l q)
