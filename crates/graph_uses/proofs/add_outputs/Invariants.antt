-- The loop's invariant: once the output places from i on are counted too, all uses are.
use mathlib.Core.Path.{refl}
use mathlib.Core.List.{List}
use Prim.Native.Nat.{ℕ, ◌-◌, ◌<◌}
use native.Mathlib.Omega.{arith}
use lib.ListN.{length, drop}
use Rattle.definitions.specs.Graph.{slot_limit, unused_place, graph_of, true_count}
use Rattle.laws.proofs.Graph.{length-outputs}
use Rattle.laws.proofs.Counts.{Counting, counting_starts, counting_turn, counting_room, counting_ends}
use Rattle.graph_uses.proofs.Laws.{uses_most}
use Rattle.graph_uses.proofs.add_outputs.Given as goal

abbrev pub invariant-loop-i : goal.invariant-loop-i
invariant-loop-i l = Counting slot_limit (true_count (graph_of l.graph)) (drop l.i (graph_of l.graph).outputs) l.uses
