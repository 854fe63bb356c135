-- The loop's invariant: the lines read so far, with their slots in the table, and what they leave of the listing.
use mathlib.Core.Path.{◌≡◌}
use Prim.Native.Nat.{◌-◌, ◌≤◌}
use lib.ListN.{length}
use Rattle.listing_slots.proofs.Lines.{Going}
use Rattle.listing_slots.proofs.read_lines.Given as goal

abbrev pub invariant-loop-table : goal.invariant-loop-table
invariant-loop-table l = (l.place ≤ length l.text) × (length l.table ≡ length l.initial.table) × Going l.size l.text l.at l.from l.place l.table

abbrev pub decreases-loop-table : goal.decreases-loop-table
decreases-loop-table l = l.size - l.from
