-- The loop's invariant: the input places of the first w source vertices are counted.
use Rattle.definitions.specs.Rule.{side_capacity}
use Rattle.rule_fields.specs.Fixed.{fixed_of}
use Rattle.laws.specs.Counted.{Counted}
use Rattle.rule_uses.specs.Countable.{places_below}
use Rattle.rule_uses.proofs.count_places.Given as goal

abbrev pub invariant-loop-w : goal.invariant-loop-w
invariant-loop-w l = Counted side_capacity (places_below (fixed_of l.rule) l.w) l.places
