-- The loop's invariant: below slot v the slots that go are Empty, and from there on the block is as it came.
use Rattle.definitions.specs.Graph.{graph_of}
use Rattle.graph_slots.specs.Written.{Halfway}
use Rattle.graph_sweep.specs.Emptied.{emptied}
use Rattle.graph_sweep.proofs.empty_slots.Given as goal

abbrev pub invariant-loop-v : goal.invariant-loop-v
invariant-loop-v l = Halfway l.v l.graph (emptied (graph_of l.initial.graph)) l.initial.graph
