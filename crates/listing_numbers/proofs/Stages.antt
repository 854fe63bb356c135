-- The bounds of digits that can go on, the end of a number, and the loop that reads one byte by byte.
-- Assumes nothing.
use mathlib.Core.Path.{◌≡◌, refl, sym, ap, ◌∙◌}
use mathlib.Core.Bool.{Bool, true, false, false≢true}
use mathlib.Core.List.{List, [], ◌∷◌}
use mathlib.Core.Logic.{⊎_elim}
use mathlib.Core.Option.{none, some}
use Prim.Native.Nat.{ℕ, zero, suc, ◌+◌, ◌<◌, ◌≤◌}
use native.Mathlib.Numerals.{add-one}
use native.Mathlib.Omega.{arith}
use borrow.Author.Tests.{lt-ltb, ltb-true, ltb-false}
use lib.Dec.{ltb}
use lib.ListN.{length, get_or, drop}
use lib.Seq.{drop-cons}
use Rattle.definitions.specs.Lists.{within}
use Rattle.laws.proofs.Lists.{decided}
use Rattle.definitions.specs.Numerals.{Field, in_field}
use Rattle.listing.specs.Typing.{Typed, nothing, minus, digits_of, valued, is_digit, is_numeric, pressed, whole, goes_on, going_on, typed_with, stopped, got, ended_at, number_from}
use Rattle.listing.proofs.Reach.{within_low, within_high, is_within, reaches_high}
use Rattle.listing.proofs.Answers.{number_ends, number_stops, number-goes}

-- ---- a minus that is not the first byte

module _ (field : Field) where
  pub minus_other : (c : ℕ) → is_digit c ≡ false → typed_with field minus c ≡ none
  unfolding typed_with pressed going_on
  minus_other c other = rw other

  pub digits_other : (sign : Bool) (d c : ℕ) → is_digit c ≡ false → typed_with field (digits_of sign d) c ≡ none
  unfolding typed_with pressed going_on
  digits_other sign d c other = rw other

-- ---- digits that can go on

pub goes_high : (d low high : ℕ) → goes_on d low high ≡ true → d ≤ high
unfolding goes_on
goes_high d low high h =
    ⊎_elim (λ (t : ltb 0 d ≡ true). reaches_high 10 d low high (rw t at h))
    (λ (f : ltb 0 d ≡ false). omega (arith, ltb-false 0 d f))
    (decided (ltb 0 d))

-- ---- the end of a number

pub negative_ends : (field : Field) (at value : ℕ) → within 1 value field.below ≡ true
    → got (valued true value) at ≡ ended_at field at (whole (digits_of true value))
unfolding ended_at whole valued in_field
negative_ends field at zero h = absurd (omega (arith, within_low 1 0 field.below h))
negative_ends field at (suc n) h = rw (lt-ltb n field.below (within_high 1 (suc n) field.below h))

pub negative_fails : (field : Field) (at value : ℕ) → within 1 value field.below ≡ false → stopped at ≡ ended_at field at (whole (digits_of true value))
unfolding ended_at whole in_field
negative_fails field at zero h = refl
negative_fails field at (suc n) h =
    ⊎_elim (λ (t : ltb n field.below ≡ true).
    absurd (false≢true (sym h ∙ is_within 1 (suc n) field.below (omega arith) (ltb-true n field.below t))))
    (λ (f : ltb n field.below ≡ false). rw f)
    (decided (ltb n field.below))

-- ---- bytes and numbers

pub digit_low : (c : ℕ) → is_digit c ≡ true → 48 ≤ c
unfolding is_digit
digit_low c h = within_low 48 c 57 h

pub digit_high : (c : ℕ) → is_digit c ≡ true → c ≤ 57
unfolding is_digit
digit_high c h = within_high 48 c 57 h

-- ---- the loop that reads a number: what is left of the text is read on from what has been read

abbrev pub Reading : Field → List ℕ → ℕ → ℕ → Typed → Type 0
Reading field text at i t = number_from field nothing at (drop at text) ≡ number_from field t i (drop i text)

drop_all : {A : Type 0} (n : ℕ) (xs : List A) → length xs ≤ n → drop n xs ≡ []
drop_all zero [] l = refl
drop_all zero (x ∷ xs) l = absurd (omega arith)
drop_all (suc n) [] l = refl
drop_all (suc n) (x ∷ xs) l = drop_all n xs (omega arith)

module _ (field : Field) (text : List ℕ) (at i : ℕ) (t : Typed) (h : Reading field text at i t) where
  pub reading_over : length text ≤ i → stopped i ≡ number_from field nothing at (drop at text)
  unfolding number_from
  reading_over past_end = sym (h ∙ ap (number_from field t i) (drop_all i text past_end))

  module _ (inside : i < length text) where
    next_byte : number_from field nothing at (drop at text) ≡ number_from field t i (get_or text i 0 ∷ drop (suc i) text)
    next_byte = h ∙ ap (number_from field t i) (drop-cons text i 0 inside)

    pub reading_ends : is_numeric (get_or text i 0) ≡ false → ended_at field i (whole t) ≡ number_from field nothing at (drop at text)
    reading_ends other = sym (next_byte ∙ number_ends field t i (get_or text i 0) (drop (suc i) text) other)

    module _ (numeric : is_numeric (get_or text i 0) ≡ true) where
      pub reading_stops : typed_with field t (get_or text i 0) ≡ none → stopped i ≡ number_from field nothing at (drop at text)
      reading_stops e = sym (next_byte ∙ number_stops field t i (get_or text i 0) (drop (suc i) text) numeric e)

      pub reading_goes : (next : Typed) → typed_with field t (get_or text i 0) ≡ some next → Reading field text at (i + 1) next
      reading_goes next e = rw add-one (next_byte ∙ number-goes field t i (get_or text i 0) (drop (suc i) text) next numeric e)
