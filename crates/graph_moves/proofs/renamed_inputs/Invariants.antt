-- The loop's invariant: the first i places have their new names.
use lib.ListN.{take}
use Rattle.definitions.specs.Graph.{input_limit, unused_place}
use Rattle.laws.proofs.Filling.{Filling}
use Rattle.graph_moves.specs.Moving.{name_in}
use Rattle.graph_moves.proofs.renamed_inputs.Given as goal

abbrev pub invariant-loop-i : goal.invariant-loop-i
invariant-loop-i l = Filling (name_in l.to) unused_place input_limit (take l.n l.inputs) l.n l.i l.places
