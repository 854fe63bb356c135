use native.Mathlib.Omega.{arith}
use Rattle.listing_numbers.proofs.Laws.{count-first, count_more, count_few}
use Rattle.listing_numbers.proofs.digit_count.Goals as goal

pub loop-rest-init : goal.loop-rest-init
loop-rest-init c = count-first _ c.requires

pub overflow_add-count : goal.overflow_add-count
overflow_add-count c = omega (arith, count_few _ _ _ (omega arith) c.loop-rest.invariant)

pub loop-rest-preserved : goal.loop-rest-preserved
loop-rest-preserved c = count_more _ _ _ (omega arith) c.loop-rest.invariant
