-- The loop's invariant: the first t target vertices have fit results.
use mathlib.Core.Path.{◌≡◌}
use mathlib.Core.Bool.{true}
use Rattle.definitions.specs.Lists.{all_below}
use Rattle.definitions.specs.Graph.{graph_of}
use Rattle.definitions.specs.Match.{read_attribute}
use Rattle.rule_fields.specs.Fixed.{fixed_of}
use Rattle.target_attributes.specs.Fitness.{vertex_given}
use Rattle.target_attributes.proofs.all_fit.Given as goal

abbrev pub invariant-loop-t : goal.invariant-loop-t
invariant-loop-t l = (all_below (vertex_given (read_attribute (graph_of l.graph) l.images) (fixed_of l.rule)) l.t ≡ true)
