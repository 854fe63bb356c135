-- Each case of what has been read, and of the byte.
use borrow.Author.Tests.{lt-ltb, le-ltb}
use mathlib.Core.Path.{◌≡◌, sym, ap, ◌∙◌}
use mathlib.Core.Bool.{true, false}
use mathlib.Core.Logic.{⊎_elim}
use Prim.Native.Nat.{◌<◌}
use native.Mathlib.Omega.{arith}
use Rattle.listing.specs.Typing.{is_digit, pressed, typed_with, going_on, can_go_on}
use Rattle.listing_numbers.specs.declared.Typing.{Typing}
use Rattle.listing_numbers.specs.State.{field_of, typed_of}
use Rattle.listing_numbers.proofs.Stages.{minus_other, digits_other, digit_low, digit_high}
use Rattle.listing_numbers.proofs.typed_more.Goals as goal

pub returns-then-field-gt0-clause-value_value : goal.returns-then-field-gt0-clause-value_value
unfolding typed_with pressed going_on can_go_on
returns-then-field-gt0-clause-value_value c = rw (c.in-Nothing.is, sym c.is_digit.ensures, c.if-not-is_digit.true, lt-ltb 0 _ c.if-field-gt0.true)

pub returns-else-field-gt0-clause-value_value : goal.returns-else-field-gt0-clause-value_value
unfolding typed_with pressed going_on can_go_on
returns-else-field-gt0-clause-value_value c = rw (c.in-Nothing.is, sym c.is_digit.ensures, c.if-not-is_digit.true, le-ltb 0 _ c.if-field-gt0.false)

pub returns-in-Minus : goal.returns-in-Minus
returns-in-Minus c = let F = field_of c.args.field in
    let other : is_digit c.args.c ≡ false = sym c.is_digit.ensures ∙ c.if-not-is_digit.true in
    record {
      value_value = ⊎_elim (λ e. sym (ap (λ (t : Typing). typed_with F (typed_of t) c.args.c) e ∙ minus_other F c.args.c other))
          (⊎_elim (λ e. sym (ap (λ (t : Typing). typed_with F (typed_of t) c.args.c) e.1 ∙ digits_other F false e.0 c.args.c other))
          (λ e. sym (ap (λ (t : Typing). typed_with F (typed_of t) c.args.c) e.1 ∙ digits_other F true e.0 c.args.c other))) c.in-Minus.is;
      value_bound_2 = tt;
    }

pub overflow_sub-c : goal.overflow_sub-c
overflow_sub-c c = digit_low _ (sym c.is_digit.ensures ∙ c.if-not-is_digit.false)

pub returns-in-Nothing-t-clause-value_value : goal.returns-in-Nothing-t-clause-value_value
unfolding typed_with pressed
returns-in-Nothing-t-clause-value_value c = c.digits_so.ensures.value_value ∙ rw (c.in-Nothing-t.is, sym c.is_digit.ensures, c.if-not-is_digit.false, c.from-d.ensures)

pub returns-then-d-eq0-clause-value_value : goal.returns-then-d-eq0-clause-value_value
unfolding typed_with pressed going_on
returns-then-d-eq0-clause-value_value c = rw (c.in-Minus-t.is, sym c.is_digit.ensures, c.if-not-is_digit.false, le-ltb 48 c.args.c (omega (arith, c.from-d.ensures, c.if-d-eq0.true)))

pub returns-else-d-eq0-clause-value_value : goal.returns-else-d-eq0-clause-value_value
unfolding typed_with pressed
returns-else-d-eq0-clause-value_value c = let l : 48 < c.args.c = omega (arith, c.from-d.ensures) in
    c.digits_so-else-d-eq0.ensures.value_value ∙ rw (c.in-Minus-t.is, sym c.is_digit.ensures, c.if-not-is_digit.false, lt-ltb 48 c.args.c l, c.from-d.ensures)

pub digits_behind-requires-clause-value_bound : goal.digits_behind-requires-clause-value_bound
digits_behind-requires-clause-value_bound c = (
  rw c.in-Digits.is at c.requires.value_bound,
  omega (arith, c.from-d.ensures, digit_high _ (sym c.is_digit.ensures ∙ c.if-not-is_digit.false)),
)

pub digits_behind-requires-in-NegativeDigits-clause-value_bound : goal.digits_behind-requires-in-NegativeDigits-clause-value_bound
digits_behind-requires-in-NegativeDigits-clause-value_bound c = (
  rw c.in-NegativeDigits.is at c.requires.value_bound,
  omega (arith, c.from-d.ensures, digit_high _ (sym c.is_digit.ensures ∙ c.if-not-is_digit.false)),
)

pub returns-in-Digits-clause-value_value : goal.returns-in-Digits-clause-value_value
unfolding typed_with pressed
returns-in-Digits-clause-value_value c = c.digits_behind.ensures.value_value ∙ rw (c.in-Digits.is, sym c.is_digit.ensures, c.if-not-is_digit.false, c.from-d.ensures)

pub returns-in-NegativeDigits-clause-value_value : goal.returns-in-NegativeDigits-clause-value_value
unfolding typed_with pressed
returns-in-NegativeDigits-clause-value_value c = c.digits_behind-in-NegativeDigits.ensures.value_value ∙ rw (c.in-NegativeDigits.is, sym c.is_digit.ensures, c.if-not-is_digit.false, c.from-d.ensures)
