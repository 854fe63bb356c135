-- The word of a number below zero, of a zero, and of another.
use Rattle.listing_lists.proofs.Gathers.{word_zero, word-negative, word-plain}
use Rattle.listing_lists.proofs.word_of.Goals as goal

pub returns-then-value-eq0 : goal.returns-then-value-eq0
returns-then-value-eq0 c = word_zero _ _ c.if-negative.true c.if-value-eq0.true

pub returns-else-value-eq0 : goal.returns-else-value-eq0
returns-else-value-eq0 c = word-negative _ _ c.if-negative.true c.if-value-eq0.false

pub returns-else-negative : goal.returns-else-negative
returns-else-negative c = word-plain _ _ c.if-negative.false
