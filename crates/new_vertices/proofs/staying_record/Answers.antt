-- The record of a vertex that stays, field by field.
use mathlib.Core.Path.{sym, ◌∙◌}
use lib.ListN.{length-map}
use Rattle.definitions.specs.Graph.{renamed, graph_of, inputs_of}
use Rattle.redirection.specs.Moves.{moved}
use Rattle.new_vertices.proofs.staying_record.Goals as goal

pub returns : goal.returns
unfolding renamed
returns c = record {
  kind = c.kind_of-kind.ensures.0;
  operator = c.operator_of-operator.ensures.0;
  input_count = c.input_count-n.ensures.0
      ∙ sym (length-map (inputs_of (graph_of c.args.graph.now) c.args.k) (moved c.args.way));
  attribute_count = c.attribute_count-m.ensures.0;
  inputs = c.staying_inputs-inputs.ensures;
  attributes = c.attribute_words-attributes.ensures;
}
