-- The test of a digit is one of bounds.
use borrow.Author.Rules.{rules}
use Rattle.listing.specs.Typing.{is_digit}
use Rattle.listing_numbers.proofs.is_digit.Goals as goal

pub returns : goal.returns
unfolding is_digit
returns c = search rules
