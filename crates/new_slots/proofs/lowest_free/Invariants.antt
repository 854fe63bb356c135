-- The loop's invariant: the count and the list are right for the slots below k.
use Prim.Native.Nat.{◌≤◌}
use Rattle.new_slots.specs.Vacant.{marked, Lowest}
use Rattle.new_slots.proofs.lowest_free.Given as goal

abbrev pub invariant-loop-k : goal.invariant-loop-k
invariant-loop-k l = record { bounded : l.count ≤ l.k; listed : Lowest (marked l.free l.k) l.count l.slots }
