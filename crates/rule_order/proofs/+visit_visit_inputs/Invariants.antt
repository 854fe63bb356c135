-- The measures: an input is lower than its vertex, which has at most 6 inputs, so 8 to a vertex leave room for its inputs and itself.
use Prim.Native.Nat.{◌+◌, ◌-◌, ◌*◌}
use Rattle.rule_order.proofs.+visit_visit_inputs.Given as goal

abbrev pub decreases-visit : goal.decreases-visit
decreases-visit l = l.v * 8 + 7

abbrev pub decreases-visit_inputs : goal.decreases-visit_inputs
decreases-visit_inputs l = l.v * 8 + (6 - l.i)
