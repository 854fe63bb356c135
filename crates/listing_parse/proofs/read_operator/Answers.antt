-- Only the word of a Call has an operator behind it.
use mathlib.Core.Path.{◌≡◌, refl, sym, ap, subst, ◌∙◌}
use mathlib.Core.Bool.{true}
use Prim.Native.Nat.{ℕ}
use borrow.Author.Tests.{eq-eqb, ne_eqb}
use lib.ListN.{drop}
use Rattle.std.specs.Result.{IfOk}
use Rattle.definitions.specs.Lists.{within}
use Rattle.definitions.specs.Operators.{kind_call}
use Rattle.definitions.specs.Numerals.{Field}
use Rattle.definitions.specs.Sheet.{Sheet, operator_field}
use Rattle.listing.specs.Typing.{nothing}
use Rattle.listing.specs.Forms.{Form, number, answer_from, go_on}
use Rattle.listing.specs.Grammar.{magnitude, literal, operator_form, operator_of}
use Rattle.listing_numbers.proofs.Stops.{stops}
use Rattle.listing_parse.proofs.read_operator.Goals as goal

-- the number behind the space
abbrev operator : (ℕ → Form Sheet) → Form Sheet
operator f = number operator_field nothing (λ z. f (magnitude z))

pub returns-then-kind-ne-KIND_CALL-clause-part_read : goal.returns-then-kind-ne-KIND_CALL-clause-part_read
unfolding operator_form go_on
returns-then-kind-ne-KIND_CALL-clause-part_read c = λ f. rw (ne_eqb c.args.kind kind_call c.if-kind-ne-KIND_CALL.true) refl

pub returns-then-kind-ne-KIND_CALL-clause-value_value : goal.returns-then-kind-ne-KIND_CALL-clause-value_value
unfolding operator_of
returns-then-kind-ne-KIND_CALL-clause-value_value c = rw (ne_eqb c.args.kind kind_call c.if-kind-ne-KIND_CALL.true) refl

pub returns-in_err-space-clause-part_read : goal.returns-in_err-space-clause-part_read
unfolding operator_form literal go_on
returns-in_err-space-clause-part_read c = λ f. rw (eq-eqb c.args.kind kind_call c.if-kind-ne-KIND_CALL.false, stops c.from_residual.result c.in_err-space.field-0.0 c.from_residual.ensures.1)
    (c.in_err-space.ensures.part_read (λ k. operator f))

pub returns-clause-part_read : goal.returns-clause-part_read
unfolding operator_form literal go_on
returns-clause-part_read c = λ f. rw (eq-eqb c.args.kind kind_call c.if-kind-ne-KIND_CALL.false) (c.in_ok-space.ensures.part_read (λ k. operator f)
    ∙ ap (λ (F : Field). answer_from (number F nothing (λ z. f (magnitude z))) c.in_ok-space.space.next (drop c.in_ok-space.space.next c.args.text.now)) (sym c.operator_field.ensures)
    ∙ c.read_natural.ensures.part_read f)

pub returns-clause-value_value : goal.returns-clause-value_value
unfolding operator_of
returns-clause-value_value c = rw (eq-eqb c.args.kind kind_call c.if-kind-ne-KIND_CALL.false)
    (subst (λ (F : Field). IfOk c.read_natural.result (λ part. within F.low part.value F.high ≡ true)) c.operator_field.ensures c.read_natural.ensures.high_value)
