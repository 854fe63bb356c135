-- The loop's invariant: the digits counted, and those of what is left, are the number's.
use Rattle.listing_numbers.proofs.Laws.{CountedSo}
use Rattle.listing_numbers.proofs.digit_count.Given as goal

abbrev pub invariant-loop-rest : goal.invariant-loop-rest
invariant-loop-rest l = CountedSo l.n l.count l.rest

abbrev pub decreases-loop-rest : goal.decreases-loop-rest
decreases-loop-rest l = l.rest
