-- The loop's invariant is `Work`, with the inputs that were passed of the slot whose turn it is. A turn passes an input, lists one, or
-- goes on to the next slot of the list.
use mathlib.Core.Path.{◌≡◌, ◌∙◌}
use mathlib.Core.Bool.{true}
use mathlib.Core.List.{List}
use Prim.Native.Nat.{ℕ, ◌+◌, ◌-◌, ◌*◌, ◌<◌, ◌≤◌}
use native.Mathlib.Omega.{arith}
use lib.ListN.{length, get_or, set, length-set, replicate, length-replicate}
use lib.Seq.{get_or-set_other}
use Rattle.definitions.specs.Graph.{unused_place, slot_count, graph_of, inputs_of}
use Rattle.definitions.specs.Paths.{Reads, is_marked}
use Rattle.laws.proofs.Members.{mem-at}
use Rattle.laws.proofs.Tallies.{tally-most}
use Rattle.reachability.proofs.Worklist.{Work, work_start, work_room, work_push, work_next, work_end, spread_same, spread_since, Passed, passed_none, passed_more, passed_all, passed_kept}
use Rattle.graph_reach.proofs.mark_from.Given as goal

abbrev pub invariant-loop-head : goal.invariant-loop-head
invariant-loop-head l = Work (inputs_of (graph_of l.graph)) (slot_count l.graph) l.root l.initial.marks l.marks l.queue l.head l.tail
    × (length l.marks ≡ 512) × (length l.queue ≡ 512)
    × Passed (inputs_of (graph_of l.graph)) l.marks unused_place (get_or l.queue l.head 0) l.passed

abbrev pub decreases-loop-head : goal.decreases-loop-head
decreases-loop-head l = 8 * (512 - l.head) + (512 - l.tail) + (8 - l.passed)
