-- The loop's invariant: once the input places from i on are counted too, those of the source vertices up to w are.
use Prim.Native.Nat.{◌+◌}
use lib.ListN.{drop}
use Rattle.definitions.specs.Rule.{side_capacity, source_inputs}
use Rattle.rule_fields.specs.Fixed.{fixed_of}
use Rattle.laws.proofs.Counts.{Counting}
use Rattle.rule_uses.specs.Countable.{places_below}
use Rattle.rule_uses.proofs.add_source_inputs.Given as goal

abbrev pub invariant-loop-i : goal.invariant-loop-i
invariant-loop-i l = Counting side_capacity (places_below (fixed_of l.rule) (l.w + 1)) (drop l.i (source_inputs (fixed_of l.rule) l.w)) l.places
