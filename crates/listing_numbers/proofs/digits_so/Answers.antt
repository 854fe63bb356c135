-- The digits go on by the bounds of their sign; else nothing does.
use mathlib.Core.Path.{sym, ◌∙◌}
use native.Mathlib.Omega.{arith}
use Rattle.listing.specs.Typing.{going_on, can_go_on, low_of, high_of}
use Rattle.listing_numbers.proofs.Stages.{goes_high}
use Rattle.listing_numbers.proofs.digits_so.Goals as goal

pub returns-then-goes_on-clause-value_value : goal.returns-then-goes_on-clause-value_value
unfolding going_on can_go_on low_of high_of
returns-then-goes_on-clause-value_value c = rw (c.if-negative.true, sym c.goes_on.ensures, c.if-goes_on.true)

pub returns-then-goes_on-clause-value_bound : goal.returns-then-goes_on-clause-value_bound
returns-then-goes_on-clause-value_bound c = omega (arith, goes_high c.args.d 1 c.args.field.below (sym c.goes_on.ensures ∙ c.if-goes_on.true), c.requires.ten_below)

pub returns-else-goes_on-clause-value_value : goal.returns-else-goes_on-clause-value_value
unfolding going_on can_go_on low_of high_of
returns-else-goes_on-clause-value_value c = rw (c.if-negative.true, sym c.goes_on.ensures, c.if-goes_on.false)

pub returns-then-goes_on-2-clause-value_value : goal.returns-then-goes_on-2-clause-value_value
unfolding going_on can_go_on low_of high_of
returns-then-goes_on-2-clause-value_value c = rw (c.if-negative.false, sym c.goes_on-else-negative.ensures, c.if-goes_on-2.true)

pub returns-then-goes_on-2-clause-value_bound : goal.returns-then-goes_on-2-clause-value_bound
returns-then-goes_on-2-clause-value_bound c = omega (arith, goes_high c.args.d c.args.field.low c.args.field.high (sym c.goes_on-else-negative.ensures ∙ c.if-goes_on-2.true), c.requires.ten_digits)

pub returns-else-goes_on-2-clause-value_value : goal.returns-else-goes_on-2-clause-value_value
unfolding going_on can_go_on low_of high_of
returns-else-goes_on-2-clause-value_value c = rw (c.if-negative.false, sym c.goes_on-else-negative.ensures, c.if-goes_on-2.false)
