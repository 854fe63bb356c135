-- Words and their bytes: two numbers with equally many digits are the same exactly where their digits are.
-- Assumes nothing.
use mathlib.Core.Path.{◌≡◌, refl, sym, ◌∙◌}
use mathlib.Core.List.{List}
use Prim.Native.Nat.{ℕ, zero, suc, ◌+◌, ◌-◌, ◌*◌, ◌<◌}
use native.Mathlib.Nat.{not-suc-le-zero, le_of_suc-le-suc}
use native.Mathlib.Omega.{arith}
use borrow.Author.Tests.{ltb-true, lt-ltb}
use lib.Dec.{eqb, ltb}
use Rattle.definitions.specs.Fields.{byte_at, Bytes, filled}
use Rattle.fields.specs.Words.{word_bytes, number, u64_at}
use Rattle.laws.proofs.Tests.{same_test, same_tests}
use Rattle.fields.proofs.Laws.{filled_each, filled-place}

-- ---- digits

pub number_of : (n : ℕ) (f g : ℕ → ℕ) → ((i : ℕ) → i < n → f i ≡ g i) → number n f ≡ number n g
unfolding number
number_of zero f g same = refl
number_of (suc n) f g same =
    omega (arith, same 0 (omega arith), number_of n (λ i. f (suc i)) (λ i. g (suc i)) (λ i l. same (suc i) (omega arith)))

pub digits_of : (n : ℕ) (f g : ℕ → ℕ) → ((i : ℕ) → i < n → f i < 256) → ((i : ℕ) → i < n → g i < 256) → number n f ≡ number n g
    → (i : ℕ) → i < n → f i ≡ g i
unfolding number
digits_of zero f g below under same i l = absurd (not-suc-le-zero l)
digits_of (suc n) f g below under same zero l = omega (arith, below 0 (omega arith), under 0 (omega arith))
digits_of (suc n) f g below under same (suc i) l =
    digits_of n (λ j. f (suc j)) (λ j. g (suc j)) (λ j m. below (suc j) (omega arith)) (λ j m. under (suc j) (omega arith))
    (omega (arith, below 0 (omega arith), under 0 (omega arith))) i (le_of_suc-le-suc l)

-- ---- words

module _ (block : List ℕ) (at : ℕ) where
  -- it is the same byte eight times exactly where it is that byte's word
  pub word-filled : (value : ℕ) → Bytes block → value < 256
      → eqb (u64_at block at) (72340172838076673 * value) ≡ filled block at (at + word_bytes) value
  unfolding u64_at number
  word-filled value bytes small =
      let ones : number word_bytes (λ i. value) ≡ 72340172838076673 * value = omega arith in
      same_test (u64_at block at) (72340172838076673 * value)
      (λ e.
      filled_each block value at (at + word_bytes)
      (λ k l m.
      let i : at + (k - at) ≡ k = omega arith in
      rw i at (digits_of word_bytes (λ i. byte_at block (at + i)) (λ i. value) (λ i l. bytes (at + i)) (λ i l. small)
      (e ∙ sym ones) (k - at) (omega arith))))
      (λ h.
      number_of word_bytes (λ i. byte_at block (at + i)) (λ i. value)
      (λ i l. filled-place block value at (at + word_bytes) h (at + i) (omega arith) (omega arith))
      ∙ ones)

  -- it is a 16-bit number exactly where all its bytes but two are zero
  pub word_ends : Bytes block → ltb (u64_at block at) 65536 ≡ filled block (at + 2) (at + word_bytes) 0
  unfolding u64_at number
  word_ends bytes =
      let digit : ℕ → ℕ = λ i. byte_at block (at + suc (suc i)) in
      same_tests
      (λ t.
      let none : number 6 digit ≡ number 6 (λ i. 0) = omega (arith, ltb-true (u64_at block at) 65536 t) in
      filled_each block 0 (at + 2) (at + word_bytes)
      (λ k l m.
      let i : at + suc (suc (k - (at + 2))) ≡ k = omega arith in
      rw i at (digits_of 6 digit (λ i. 0) (λ i l. bytes (at + suc (suc i))) (λ i l. omega arith) none (k - (at + 2)) (omega arith))))
      (λ h.
      let none : number 6 digit ≡ number 6 (λ i. 0) =
      number_of 6 digit (λ i. 0)
      (λ i l. filled-place block 0 (at + 2) (at + word_bytes) h (at + suc (suc i)) (omega arith) (omega arith)) in
      lt-ltb (u64_at block at) 65536 (omega (arith, none, bytes (at + 0), bytes (at + 1))))
