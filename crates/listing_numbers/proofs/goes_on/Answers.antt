-- Digits above zero by the law on the bounds; a zero where the lower bound is zero.
use borrow.Author.Tests.{lt-ltb, le-ltb}
use Rattle.listing.specs.Typing as typing
use Rattle.listing_numbers.proofs.goes_on.Goals as goal

pub returns-then-d-gt0 : goal.returns-then-d-gt0
unfolding typing.goes_on
returns-then-d-gt0 c = simp (lt-ltb 0 _ c.if-d-gt0.true) c.reaches.ensures

pub returns-else-d-gt0 : goal.returns-else-d-gt0
unfolding typing.goes_on
returns-else-d-gt0 c = simp (le-ltb 0 _ c.if-d-gt0.false)
