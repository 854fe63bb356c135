-- The loop's invariant: the digits behind i stand in the part, and the rest has the others.
use Rattle.listing_numbers.proofs.Laws.{WrittenFrom}
use Rattle.listing_numbers.proofs.put_decimal.Given as goal

abbrev pub invariant-loop-i : goal.invariant-loop-i
invariant-loop-i l = WrittenFrom l.n l.rest l.i l.part
