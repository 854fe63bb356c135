-- A number that is typed whole before it is asked whether it fits: where it does, some number of the field could come of what was typed at
-- each byte, so asking at each byte gives the same.
-- Assumes nothing.
use mathlib.Core.Path.{◌≡◌, refl, sym, ap, ◌∙◌}
use mathlib.Core.Bool.{true, false, or-true}
use mathlib.Core.List.{List, [], ◌∷◌}
use mathlib.Core.Option.{some}
use Prim.Native.Nat.{ℕ, suc, ◌+◌, ◌-◌, ◌*◌, ◌<◌, ◌≤◌}
use native.Mathlib.Numerals.{add-one}
use borrow.Author.Tests.{lt-ltb}
use lib.Dec.{eqb}
use lib.IntN.{ℤ, pos}
use lib.ListN.{length, get_or, drop}
use lib.Seq.{drop-cons}
use Rattle.definitions.specs.Lists.{within}
use Rattle.definitions.specs.Numerals.{minus_sign, Field, in_field}
use Rattle.listing.specs.Typing.{Typed, nothing, digits_of, valued, is_digit, is_numeric, pressed, whole, can_go_on, FieldFits, going_on, typed_with, got, ended_at, number_from}
use Rattle.listing.specs.Forms.{Completes, here, more}
use Rattle.listing.proofs.Completing.{comes, number-goes_on}
use Rattle.listing.proofs.Answers.{number_ends, number-goes}

-- `t` has been typed up to `i`: if a number of the field is completed from there, reading has gone on up to `i`
abbrev pub TypedUpTo : Field → List ℕ → ℕ → ℕ → Typed → Type 0
TypedUpTo field text at i t =
    (tail : List ℕ) → (z : ℤ) → Completes t tail z → in_field field z ≡ true
    → number_from field nothing at (drop at text) ≡ number_from field t i (drop i text)

pub typed_first : (field : Field) (text : List ℕ) (at : ℕ) → TypedUpTo field text at at nothing
typed_first field text at tail z completes inside = refl

typed_on_lem : (field : Field) (t : Typed) (c : ℕ) (next : Typed) → pressed t c ≡ some next → can_go_on field next ≡ true → typed_with field t c ≡ some next
unfolding typed_with going_on
typed_on_lem field t c next is can = rw (is, can)

module _ (field : Field) (text : List ℕ) (at i : ℕ) (t : Typed) (within_text : i < length text) (h : TypedUpTo field text at i t) where
  next_byte : number_from field t i (drop i text) ≡ number_from field t i (get_or text i 0 ∷ drop (suc i) text)
  next_byte = ap (number_from field t i) (drop-cons text i 0 within_text)

  pub typed_more : FieldFits field → (next : Typed) → is_numeric (get_or text i 0) ≡ true → pressed t (get_or text i 0) ≡ some next
      → TypedUpTo field text at (i + 1) next
  typed_more fits next numeric is tail z completes inside =
      rw add-one
      (h (get_or text i 0 ∷ tail) z (more numeric is completes) inside ∙ next_byte
      ∙ number-goes field t i (get_or text i 0) (drop (suc i) text) next numeric goes)
    where
      goes : typed_with field t (get_or text i 0) ≡ some next
      goes = typed_on_lem field t (get_or text i 0) next is (number-goes_on field fits next z (comes completes) inside)

  pub typed_ends : (z : ℤ) → whole t ≡ some z → in_field field z ≡ true → is_numeric (get_or text i 0) ≡ false
      → got z i ≡ number_from field nothing at (drop at text)
  unfolding ended_at
  typed_ends z is inside other =
      sym (h [] z (here is) inside ∙ next_byte ∙ number_ends field t i (get_or text i 0) (drop (suc i) text) other ∙ rw (is, inside))

-- ---- plain digits

digit_numeric : (c : ℕ) → is_digit c ≡ true → is_numeric c ≡ true
unfolding is_numeric
digit_numeric c is = rw is (or-true (eqb c minus_sign))

module _ (field : Field) (text : List ℕ) (at : ℕ) where
  pub digit-first : FieldFits field → at < length text → is_digit (get_or text at 0) ≡ true → (d : ℕ) → d ≡ get_or text at 0 - 48
      → TypedUpTo field text at (at + 1) (digits_of false d)
  unfolding pressed
  digit-first fits inside is d e =
      typed_more field text at at nothing inside (typed_first field text at) fits (digits_of false d)
      (digit_numeric (get_or text at 0) is) (rw (is, e))

  module _ (i value : ℕ) (inside : i < length text) (h : TypedUpTo field text at i (digits_of false value)) where
    pub digit_more : FieldFits field → is_digit (get_or text i 0) ≡ true → 1 ≤ value → (d : ℕ) → d ≡ get_or text i 0 - 48
        → TypedUpTo field text at (i + 1) (digits_of false (10 * value + d))
    unfolding pressed
    digit_more fits is some-digits d e =
        typed_more field text at i (digits_of false value) inside h fits (digits_of false (10 * value + d))
        (digit_numeric (get_or text i 0) is) (rw (is, lt-ltb 0 value some-digits, e))

    pub digits-end : within field.low value field.high ≡ true → is_numeric (get_or text i 0) ≡ false
        → got (valued false value) i ≡ number_from field nothing at (drop at text)
    unfolding whole valued in_field
    digits-end fit other = typed_ends field text at i (digits_of false value) inside h (pos value) refl fit other
