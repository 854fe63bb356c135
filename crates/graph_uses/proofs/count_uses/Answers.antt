use mathlib.Core.Path.{refl}
use Prim.Native.Nat.{◌-◌, ◌≤◌}
use native.Mathlib.Omega.{arith}
use Rattle.definitions.specs.Lists.{total}
use Rattle.definitions.specs.Graph.{slot_limit, graph_of}
use Rattle.laws.specs.Counted.{Counted}
use Rattle.laws.proofs.Counts.{counted_none, counted_same}
use Rattle.graph_uses.specs.Countable.{reads_below}
use Rattle.graph_uses.proofs.Laws.{reads_all}
use Rattle.graph_uses.proofs.count_uses.Goals as goal

pub loop-k-init : goal.loop-k-init
unfolding total
loop-k-init c = counted_none slot_limit (λ v. refl)

pub add_outputs-requires : goal.add_outputs-requires
add_outputs-requires c = record {
  readable = c.requires.readable;
  outputs = c.requires.outputs;
  counted = counted_same (λ v. reads_all c.args.graph.now c.loop-k.k v (omega arith)) c.loop-k.invariant;
}
