-- The side's order at the depth that the definition takes is the rule's.
use Rattle.variadic_order.proofs.Sides.{source-order}
use Rattle.variadic_order.proofs.source_order.Goals as goal

pub returns : goal.returns
returns c =
    let found = rw c.source_side.ensures at c.order_of.ensures in
    rw (← source-order c.args.rule.now c.args.n c.requires.le_n.0 c.requires.side_layout c.requires.output_layout)
    (found.ordered _ c.requires.output_layout)
