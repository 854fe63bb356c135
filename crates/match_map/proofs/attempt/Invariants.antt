-- Every turn matches one output more, or no match has the images that the map gives.
use Rattle.definitions.specs.Graph.{graph_of}
use Rattle.rule_fields.specs.Fixed.{fixed_of}
use Rattle.match_map.proofs.Laws.{Attempted}
use Rattle.match_map.proofs.attempt.Given as goal

abbrev pub invariant-loop-i : goal.invariant-loop-i
invariant-loop-i l =
    Attempted (graph_of l.graph) (fixed_of l.rule) l.map l.initial.images l.i l.next l.images
