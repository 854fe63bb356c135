-- How many numbers below n a test holds of.
-- Assumes nothing.
use mathlib.Core.Path.{◌≡◌, ap, ◌∙◌}
use mathlib.Core.Bool.{Bool, true, false, cond}
use mathlib.Core.Logic.{⊎_elim}
use Prim.Native.Nat.{ℕ, zero, suc, ◌+◌, ◌<◌, ◌≤◌}
use native.Mathlib.Nat.{not-suc-le-zero}
use native.Mathlib.Omega.{arith}
use borrow.Author.Tests.{ltb-true, ltb-false}
use lib.Dec.{ltb}
use Rattle.definitions.specs.Lists.{total}
use Rattle.laws.proofs.Lists.{decided, bit}
use Rattle.laws.proofs.Sums.{total-most}

abbrev pub tally : (ℕ → Bool) → ℕ → ℕ
tally p n = total (λ k. cond (p k) 1 0) n

pub tally-most : (p : ℕ → Bool) (n : ℕ) → tally p n ≤ n
tally-most p n = omega (arith, total-most (λ k. cond (p k) 1 0) n 1 (λ k l. bit (p k)))

-- where it holds of all of them
pub tally_full : (p : ℕ → Bool) (n k : ℕ) → n ≤ tally p n → k < n → p k ≡ true
unfolding total
tally_full p zero k h l = absurd (not-suc-le-zero l)
tally_full p (suc n) k h l = ⊎_elim
    (λ (t : p n ≡ true).
    let rest : n ≤ tally p n = omega (arith, simp t at h) in
    ⊎_elim (λ (s : ltb k n ≡ true). tally_full p n k rest (ltb-true k n s))
    (λ (s : ltb k n ≡ false). let e : k ≡ n = omega (arith, ltb-false k n s) in rw e t)
    (decided (ltb k n)))
    (λ (t : p n ≡ false).
    let most : suc n ≤ tally p n + 0 = simp t at h in
    absurd (omega (arith, tally-most p n)))
    (decided (p n))

module _ (p q : ℕ → Bool) (wider : (k : ℕ) → p k ≡ true → q k ≡ true) where
  bit_wider : (k : ℕ) → cond (p k) 1 0 ≤ cond (q k) 1 0
  bit_wider k = ⊎_elim (λ (t : p k ≡ true). rw (t, wider k t) (omega arith)) (λ (t : p k ≡ false). rw t (omega arith)) (decided (p k))

  pub tally_wider : (n : ℕ) → tally p n ≤ tally q n
  unfolding total
  tally_wider zero = omega arith
  tally_wider (suc n) = omega (arith, tally_wider n, bit_wider n)

  -- a test that holds of one more
  pub tally_more : (n k : ℕ) → k < n → p k ≡ false → q k ≡ true → tally p n < tally q n
  unfolding total
  tally_more zero k l f t = absurd (not-suc-le-zero l)
  tally_more (suc n) k l f t =
      ⊎_elim (λ (s : ltb k n ≡ true). omega (arith, tally_more n k (ltb-true k n s) f t, bit_wider n))
      (λ (s : ltb k n ≡ false).
      let e : n ≡ k = omega (arith, ltb-false k n s) in
      rw (ap p e ∙ f, ap q e ∙ t) (omega (arith, tally_wider n)))
      (decided (ltb k n))
