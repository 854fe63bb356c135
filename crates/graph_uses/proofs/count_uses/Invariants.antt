-- The loop's invariant: the input places of the first k slots are counted.
use mathlib.Core.Path.{refl}
use Prim.Native.Nat.{◌-◌, ◌≤◌}
use native.Mathlib.Omega.{arith}
use Rattle.definitions.specs.Lists.{total}
use Rattle.definitions.specs.Graph.{slot_limit, graph_of}
use Rattle.laws.specs.Counted.{Counted}
use Rattle.laws.proofs.Counts.{counted_none, counted_same}
use Rattle.graph_uses.specs.Countable.{reads_below}
use Rattle.graph_uses.proofs.Laws.{reads_all}
use Rattle.graph_uses.proofs.count_uses.Given as goal

abbrev pub invariant-loop-k : goal.invariant-loop-k
invariant-loop-k l = Counted slot_limit (reads_below (graph_of l.graph) l.k) l.uses
