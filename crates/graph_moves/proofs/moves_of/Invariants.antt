-- The loop's invariant: the moves of the slots below v are found.
use Rattle.definitions.specs.Graph.{graph_of}
use Rattle.graph_moves.proofs.Laws.{Begun}
use Rattle.graph_moves.proofs.moves_of.Given as goal

abbrev pub invariant-loop-v : goal.invariant-loop-v
invariant-loop-v l = Begun (graph_of l.graph) l.v l.count l.from l.to
