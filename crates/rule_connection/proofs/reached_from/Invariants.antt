-- The loop's invariant: the first w entries are those of the definition's list, and the others are false.
use mathlib.Core.Path.{◌≡◌}
use mathlib.Core.Bool.{false}
use mathlib.Core.List.{◌++◌}
use Prim.Native.Nat.{◌-◌}
use lib.ListN.{replicate}
use Rattle.definitions.specs.Lists.{build}
use Rattle.definitions.specs.Rule.{side_capacity}
use Rattle.rule_fields.specs.Fixed.{fixed_of}
use Rattle.rule_connection.specs.Reached.{reached_next}
use Rattle.rule_connection.proofs.reached_from.Given as goal

abbrev pub invariant-loop-w : goal.invariant-loop-w
invariant-loop-w l = l.found ≡ build (reached_next (fixed_of l.rule) l.v) l.w ++ replicate (side_capacity - l.w) false
