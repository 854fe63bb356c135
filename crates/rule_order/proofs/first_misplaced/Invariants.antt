-- The loop's invariant: the outputs before i are visited, and no vertex is out of order.
use Prim.Native.Nat.{◌≤◌}
use Rattle.definitions.specs.Rule.{source_count}
use Rattle.rule_order.proofs.Laws.{Continues}
use Rattle.rule_order.proofs.first_misplaced.Given as goal

abbrev pub invariant-loop-i : goal.invariant-loop-i
invariant-loop-i l = (l.next ≤ source_count l.rule) × Continues l.rule l.i l.next
