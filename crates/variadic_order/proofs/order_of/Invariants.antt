-- The loop's invariant: the outputs before i are visited, and there is space for what is visited.
use Rattle.variadic_order.proofs.Outputs.{OutputsLeft}
use Rattle.variadic_order.proofs.order_of.Given as goal

abbrev pub invariant-loop-i : goal.invariant-loop-i
invariant-loop-i l = OutputsLeft l.rule l.side.first l.side.base l.side.tuple l.at l.n l.i l.copies l.numbers l.count
