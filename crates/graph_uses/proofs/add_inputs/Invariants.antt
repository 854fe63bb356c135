-- The loop's invariant: once the input places from `place` on are counted too, those of the slots up to k are.
use mathlib.Core.Path.{sym}
use mathlib.Core.List.{List}
use Prim.Native.Nat.{ℕ, ◌+◌, ◌-◌, ◌<◌}
use native.Mathlib.Omega.{arith}
use borrow.Author.Rules.{rules}
use lib.ListN.{length, drop}
use Rattle.definitions.specs.Lists.{count}
use Rattle.definitions.specs.Graph.{slot_limit, unused_place, graph_of, inputs_of}
use Rattle.laws.proofs.Sums.{total_more}
use Rattle.laws.proofs.Counts.{Counting, counting_starts, counting_turn, counting_room, counting_ends}
use Rattle.graph_uses.specs.Countable.{reads_below}
use Rattle.graph_uses.proofs.Laws.{reads_below_most}
use Rattle.graph_uses.proofs.add_inputs.Given as goal

abbrev pub invariant-loop-place : goal.invariant-loop-place
invariant-loop-place l = Counting slot_limit (reads_below (graph_of l.graph) (l.k + 1)) (drop l.place (inputs_of (graph_of l.graph) l.k)) l.uses
