-- A number ends where it lies in the field, by the bounds of its sign.
use mathlib.Core.Path.{sym, ◌∙◌}
use mathlib.Core.Logic.{⊎_elim}
use Rattle.definitions.specs.Numerals.{in_field}
use Rattle.listing.specs.Typing.{ended_at, whole, valued}
use Rattle.listing_numbers.specs.State.{field_of}
use Rattle.listing_numbers.proofs.Stages.{negative_ends, negative_fails}
use Rattle.listing_numbers.proofs.ended.Goals as goal

pub returns-then-is_within : goal.returns-then-is_within
unfolding ended_at whole valued in_field
returns-then-is_within c = rw (c.in-Digits.is, sym c.is_within.ensures, c.if-is_within.true)

pub returns-else-is_within : goal.returns-else-is_within
unfolding ended_at whole in_field
returns-else-is_within c = rw (c.in-Digits.is, sym c.is_within.ensures, c.if-is_within.false)

pub returns-then-is_within-2 : goal.returns-then-is_within-2
returns-then-is_within-2 c = rw c.in-NegativeDigits.is (negative_ends (field_of c.args.field) c.args.at c.in-NegativeDigits.value
    (sym c.is_within-in-NegativeDigits.ensures ∙ c.if-is_within-2.true))

pub returns-else-is_within-2 : goal.returns-else-is_within-2
returns-else-is_within-2 c = rw c.in-NegativeDigits.is (negative_fails (field_of c.args.field) c.args.at c.in-NegativeDigits.value
    (sym c.is_within-in-NegativeDigits.ensures ∙ c.if-is_within-2.false))

pub returns-in-Nothing : goal.returns-in-Nothing
unfolding ended_at whole
returns-in-Nothing c = ⊎_elim (λ e. rw e) (λ e. rw e) c.in-Nothing.is
