-- A word of four bytes holds the four numbers of a head, and no other word holds the same four.
-- Assumes nothing.
use mathlib.Core.Path.{◌≡◌, refl, sym}
use mathlib.Core.Bool.{true, false, not}
use mathlib.Core.Logic.{⊎_elim}
use Prim.Native.Nat.{ℕ, ◌+◌, ◌*◌, ◌/◌, ◌%◌, ◌^◌, ◌<◌}
use native.Mathlib.Nat.{div-div-eq-div-mul, mod-eq_of_lt}
use native.Mathlib.Omega.{arith}
use borrow.Author.Tests.{eqb-true, eqb-false}
use lib.Dec.{eqb}
use Rattle.definitions.specs.Operators.{kind_empty}
use Rattle.laws.proofs.Lists.{decided, fails}
use Rattle.match_look.specs.Head.{head, head_in, SameHead}
use Rattle.match_look.specs.Candidate.{head_fits}
use Rattle.match_look.proofs.Look.{wild-fits, same_fits, fits_same}

-- ---- from numbers to a word

pub head-packed : (k o n m : ℕ) → k < 256 → o < 256 → n < 256 → m < 256
    → head_in (k + 256 * o + 65536 * n + 16777216 * m) ≡ head k o n m
unfolding head_in
head-packed k o n m a b c d =
    let word : ℕ = k + 256 * o + 65536 * n + 16777216 * m in
    let first : word % 256 ≡ k = omega arith in
    let above : word / 256 ≡ o + 256 * n + 65536 * m = omega arith in
    let second : word / 256 % 256 ≡ o = rw above (omega arith) in
    let higher : word / 65536 ≡ n + 256 * m = omega arith in
    let third : word / 65536 % 256 ≡ n = rw higher (omega arith) in
    let highest : word / 16777216 ≡ m = omega arith in
    let fourth : word / 16777216 % 256 ≡ m = rw highest (omega arith) in
    rw (first, second, third, fourth)

-- ---- from a word to numbers, and back

word_back : (w : ℕ) → w < 2 ^ 32
    → (head_in w).kind + 256 * (head_in w).operator + 65536 * (head_in w).inputs + 16777216 * (head_in w).attributes ≡ w
unfolding head_in
word_back w l =
    let top : w / 16777216 < 256 = omega arith in
    omega (arith, mod-eq_of_lt top, div-div-eq-div-mul w 256 256, div-div-eq-div-mul w 65536 256)

same_words : (w z : ℕ) → w < 2 ^ 32 → z < 2 ^ 32 → SameHead (head_in w) (head_in z) → z ≡ w
same_words w z a b same = omega (arith, word_back w a, word_back z b, same.kind, same.operator, same.inputs, same.attributes)

-- ---- the look, by the words

module _ (p s : ℕ) where
  -- equal words fit, but for a wildcard and an Empty slot
  pub equal_words : s ≡ p → not (eqb (head_in p).kind kind_empty) ≡ head_fits (head_in p) (head_in s)
  equal_words e = ⊎_elim
      (λ (t : eqb (head_in p).kind kind_empty ≡ true).
      rw e (sym (wild-fits (head_in p) (head_in p) (eqb-true (head_in p).kind kind_empty t))))
      (λ (t : eqb (head_in p).kind kind_empty ≡ false).
      rw (t, e) (sym (same_fits (head_in p) (head_in p) (eqb-false (head_in p).kind kind_empty t)
      record { kind = refl; operator = refl; inputs = refl; attributes = refl })))
      (decided (eqb (head_in p).kind kind_empty))

  -- others fit a wildcard alone
  pub other_words : p < 2 ^ 32 → s < 2 ^ 32 → (s ≡ p → ⊥) → ((head_in p).kind ≡ kind_empty → ⊥) → head_fits (head_in p) (head_in s) ≡ false
  other_words a b apart other = fails (λ f. apart (same_words p s a b (fits_same (head_in p) (head_in s) other f)))
