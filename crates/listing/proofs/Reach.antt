-- Which digits can go on to a number between two bounds.
-- Assumes nothing.
use mathlib.Core.Path.{◌≡◌, refl}
use mathlib.Core.Bool.{Bool, true, false, or-true}
use mathlib.Core.Logic.{◌⊎◌, ⊎_elim}
use Prim.Native.Nat.{ℕ, zero, suc, ◌*◌, ◌/◌, ◌^◌, ◌<◌, ◌≤◌}
use native.Mathlib.Nat.{pow-suc, pow-zero}
use native.Mathlib.Omega.{arith}
use borrow.Author.Tests.{le-leb, leb-true, ltb-true, ltb-false}
use lib.Dec.{ltb, leb}
use Rattle.definitions.specs.Lists.{within}
use Rattle.laws.proofs.Lists.{decided, and_left, and_right}
use Rattle.listing.specs.Typing.{reaches}

-- n is d, or d followed by more digits
pub data Continues (d : ℕ) : ℕ → Type 0 where
  same : {n : ℕ} → n ≡ d → Continues d n
  longer : {n : ℕ} → Continues d (n / 10) → Continues d n

pub within_low : (low n high : ℕ) → within low n high ≡ true → low ≤ n
within_low low n high h = leb-true low n (and_left (leb low n) (leb n high) h)

pub within_high : (low n high : ℕ) → within low n high ≡ true → n ≤ high
within_high low n high h = leb-true n high (and_right (leb low n) (leb n high) h)

pub is_within : (low n high : ℕ) → low ≤ n → n ≤ high → within low n high ≡ true
is_within low n high l h = simp (le-leb low n l, le-leb n high h)

-- a number that goes on is no less
pub continues_le : {d n : ℕ} → Continues d n → d ≤ n
continues_le (same e) = omega arith
continues_le (longer {n = n} c) = let less = continues_le c in omega arith

-- one more digit is one of the numbers that go on
pub continues_more : {d e n : ℕ} → Continues e n → e / 10 ≡ d → Continues d n
continues_more {d} (same {n = n} p) q = longer (same {n = n / 10} (rw p q))
continues_more (longer c) q = longer (continues_more c q)

-- ---- where the test holds there is such a number

-- bounds without their last digits hold a number: so do the bounds
between : (low high n : ℕ) → low ≤ high → low / 10 ≤ n → n ≤ high / 10 → (m : ℕ) × (low ≤ m) × (m ≤ high) × (m / 10 ≡ n)
between low high n some l h =
    ⊎_elim (λ (t : ltb (10 * n) low ≡ true). let less = ltb-true (10 * n) low t in (low, omega arith, some, omega arith))
    (λ (f : ltb (10 * n) low ≡ false). let more = ltb-false (10 * n) low f in (10 * n, more, omega arith, omega arith))
    (decided (ltb (10 * n) low))

-- the digits are no more than the upper bound
pub reaches_high : (places d low high : ℕ) → reaches places d low high ≡ true → d ≤ high
unfolding reaches
reaches_high zero d low high h = absurd (mathlib.Core.Bool.false≢true h)
reaches_high (suc places) d low high h =
    ⊎_elim (λ (t : within low d high ≡ true). within_high low d high t)
    (λ (f : within low d high ≡ false). let less = reaches_high places d (low / 10) (high / 10) (simp f at h) in omega arith)
    (decided (within low d high))

pub reaches-number : (places d low high : ℕ) → low ≤ high → reaches places d low high ≡ true
    → (n : ℕ) × (low ≤ n) × (n ≤ high) × Continues d n
unfolding reaches
reaches-number zero d low high some h = absurd (mathlib.Core.Bool.false≢true h)
reaches-number (suc places) d low high some h =
    ⊎_elim (λ (t : within low d high ≡ true). (d, within_low low d high t, within_high low d high t, same refl))
    (λ (f : within low d high ≡ false).
    let (n, l, u, c) = reaches-number places d (low / 10) (high / 10) (omega arith) (simp f at h) in
    let (m, lm, um, e) = between low high n some l u in
    (m, lm, um, longer {n = m} (rw e c)))
    (decided (within low d high))

-- ---- where there is such a number the test holds

pub number-reaches : {d n : ℕ} → Continues d n → (places low high : ℕ) → 1 ≤ d → low ≤ n → n ≤ high → high < 10 ^ places
    → reaches places d low high ≡ true
unfolding reaches
number-reaches (same e) zero low high some l u small = absurd (omega (arith, rw (pow-zero 10) at small))
number-reaches {d} (same {n = n} e) (suc places) low high some l u small = rw (is_within low d high (omega arith) (omega arith))
number-reaches (longer c) zero low high some l u small =
    let less = continues_le c in
    absurd (omega (arith, rw (pow-zero 10) at small))
number-reaches {d} (longer {n = n} c) (suc places) low high some l u small =
    rw (number-reaches c places (low / 10) (high / 10) some (omega arith) (omega arith) (omega (arith, rw (pow-suc 10 places) at small)))
    (or-true (within low d high))
