-- The loop's invariant: below j stands what is demanded, and from j on the number of places.
use Rattle.definitions.specs.Rule.{side_capacity}
use Rattle.rule_fields.specs.Fixed.{fixed_of}
use Rattle.laws.specs.Counted.{Counted}
use Rattle.rule_uses.proofs.Laws.{demanded}
use Rattle.rule_uses.proofs.count_demands.Given as goal

abbrev pub invariant-loop-j : goal.invariant-loop-j
invariant-loop-j l = Counted side_capacity (demanded (fixed_of l.rule) l.j) l.demands
