-- The loop's invariant: a slot is marked where it is Empty, or the image of a source vertex below j whose image goes.
use Rattle.definitions.specs.Graph.{slot_count, graph_of}
use Rattle.rule_fields.specs.Fixed.{fixed_of}
use Rattle.laws.specs.Marked.{Marked}
use Rattle.vacancies.proofs.Steps.{free_below}
use Rattle.vacancies.proofs.find_free.Given as goal

abbrev pub invariant-loop-j : goal.invariant-loop-j
invariant-loop-j l = Marked (free_below (graph_of l.graph) (fixed_of l.rule) l.images l.j) (slot_count l.graph) l.free
