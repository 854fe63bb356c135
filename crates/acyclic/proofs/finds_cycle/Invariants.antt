-- The loop's invariant is `Search`, and its measure what is left of all slots' progress. Each way through a turn is one law of `Laws`.
use mathlib.Core.Path.{◌≡◌}
use mathlib.Core.List.{List}
use Prim.Native.Nat.{ℕ, ◌+◌, ◌-◌, ◌<◌}
use native.Mathlib.Omega.{arith}
use lib.ListN.{length, get_or}
use Rattle.definitions.specs.Graph.{unused_place, slot_count, graph_of, inputs_of}
use Rattle.definitions.specs.Paths.{Reads}
use Rattle.acyclic.specs.Search.{Sized}
use Rattle.laws.proofs.Members.{mem-at}
use Rattle.acyclic.proofs.Laws.{room, room_set, sized_progress, sized_parent, Search, Present, present, finished_grounded, closes, pass, enter, leave, end, begin, since, again, found, table}
use Rattle.acyclic.proofs.finds_cycle.Given as goal

abbrev pub invariant-loop-progress : goal.invariant-loop-progress
invariant-loop-progress l = Search (inputs_of (graph_of l.graph)) (slot_count l.graph) l.root l.initial.progress l.progress l.parent l.at × Sized l.progress l.parent

abbrev pub decreases-loop-progress : goal.decreases-loop-progress
decreases-loop-progress l = room l.progress
