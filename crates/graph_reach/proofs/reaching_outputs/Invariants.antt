-- The loop's invariant: what has a path to one of the outputs passed is marked, and nothing else.
use mathlib.Core.Path.{◌≡◌}
use mathlib.Core.Bool.{Bool, false}
use Prim.Native.Nat.{◌-◌, ◌<◌, ◌≤◌}
use native.Mathlib.Omega.{arith}
use lib.ListN.{length, take, length-replicate}
use lib.Seq.{take_all}
use Rattle.definitions.specs.Paths.{is_marked}
use Rattle.definitions.specs.Graph.{slot_limit, unused_place, slot_count, output_count, graph_of, inputs_of}
use Rattle.laws.proofs.Graph.{length-outputs}
use Rattle.reachability.specs.Marks.{Marks}
use Rattle.reachability.proofs.Marks.{marks_none, marks_more}
use Rattle.graph_reach.proofs.reaching_outputs.Given as goal

abbrev pub invariant-loop-i : goal.invariant-loop-i
invariant-loop-i l = (length l.marks ≡ slot_limit) × Marks (inputs_of (graph_of l.graph)) (take l.i (graph_of l.graph).outputs) (is_marked l.marks)
