-- The loop's invariant: the slots below v are marked where they go.
use Rattle.definitions.specs.Graph.{graph_of}
use Rattle.definitions.specs.Sweep.{reaching_outputs, is_unneeded}
use Rattle.laws.specs.Marked.{Marked}
use Rattle.graph_sweep.proofs.find_unneeded.Given as goal

abbrev pub invariant-loop-v : goal.invariant-loop-v
invariant-loop-v l = Marked (is_unneeded (graph_of l.graph) (reaching_outputs (graph_of l.graph))) l.v l.unneeded
