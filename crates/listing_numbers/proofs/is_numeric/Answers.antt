-- A minus or a digit.
use borrow.Author.Tests.{eq-eqb, ne_eqb}
use Rattle.listing.specs.Typing.{is_numeric}
use Rattle.listing_numbers.proofs.is_numeric.Goals as goal

pub returns-then-c-eq45 : goal.returns-then-c-eq45
unfolding is_numeric
returns-then-c-eq45 c = simp (eq-eqb _ 45 c.if-c-eq45.true)

pub returns-else-c-eq45 : goal.returns-else-c-eq45
unfolding is_numeric
returns-else-c-eq45 c = simp (ne_eqb _ 45 c.if-c-eq45.false) c.is_digit.ensures
