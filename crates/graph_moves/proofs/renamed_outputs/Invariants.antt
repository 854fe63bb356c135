-- The loop's invariant: the first i output places have their new names.
use Rattle.definitions.specs.Graph.{output_limit, unused_place, graph_of}
use Rattle.laws.proofs.Filling.{Filling}
use Rattle.graph_moves.specs.Moving.{name_in}
use Rattle.graph_moves.proofs.renamed_outputs.Given as goal

abbrev pub invariant-loop-i : goal.invariant-loop-i
invariant-loop-i l = Filling (name_in l.to) unused_place output_limit (graph_of l.graph).outputs l.count l.i l.outputs
