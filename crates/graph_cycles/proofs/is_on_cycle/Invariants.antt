-- The loop's invariant: what has a path to one of the inputs passed is marked.
use mathlib.Core.Path.{◌≡◌}
use Prim.Native.Nat.{◌-◌, ◌≤◌, ◌<◌}
use native.Mathlib.Omega.{arith}
use lib.ListN.{length, take, length-replicate}
use mathlib.Core.Bool.{Bool, false}
use Rattle.definitions.specs.Graph.{slot_limit, unused_place, slot_count, graph_of, inputs_of}
use Rattle.definitions.specs.Paths.{is_marked}
use Rattle.acyclic.proofs.Laws.{table}
use Rattle.reachability.specs.Marks.{Marks}
use Rattle.reachability.proofs.Marks.{marks_none, marks_more}
use Rattle.graph_cycles.proofs.Laws.{marked_ends}
use Rattle.graph_cycles.proofs.is_on_cycle.Given as goal

abbrev pub invariant-loop-i : goal.invariant-loop-i
invariant-loop-i l = (length l.marks ≡ slot_limit) × Marks (inputs_of (graph_of l.graph)) (take l.i (inputs_of (graph_of l.graph) l.v)) (is_marked l.marks)
