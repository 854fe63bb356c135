-- The loop's invariant: the slots up to k are emptied.
use Rattle.listing_slots.specs.Rows.{Cleared}
use Rattle.listing_slots.proofs.clear_slots.Given as goal

abbrev pub invariant-loop-k : goal.invariant-loop-k
invariant-loop-k l = Cleared l.from l.k l.initial.table l.table
