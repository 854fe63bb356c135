-- The record of a target vertex, field by field.
use mathlib.Core.Path.{sym, ap, ◌∙◌}
use lib.ListN.{length-map}
use Rattle.definitions.specs.Graph.{graph_of}
use Rattle.definitions.specs.Rule.{target_of}
use Rattle.definitions.specs.Rewriting.{resolve, target_slot}
use Rattle.rule_fields.specs.Fixed.{fixed_of}
use Rattle.target_attributes.specs.Fitness.{words_of}
use Rattle.new_vertices.proofs.Records.{word_count, words_same, words_told, target-places}
use Rattle.new_vertices.proofs.target_record.Goals as goal

pub returns : goal.returns
unfolding target_slot words_of
returns c = record {
  kind = c.target_kind-kind.ensures.0;
  operator = c.target_operator-operator.ensures.0;
  input_count = c.target_input_count-n.ensures.0
      ∙ sym (length-map (target_of (fixed_of c.args.rule.now) c.args.t).inputs (resolve (graph_of c.args.graph.now) (fixed_of c.args.rule.now) c.args.images.now));
  attribute_count = c.target_attribute_count-m.ensures.0 ∙ word_count c.args.graph.now c.args.rule.now c.args.images.now c.args.t c.requires.prepared.known c.requires.t_bound;
  inputs = target-places c.args.graph.now c.args.rule.now c.args.images.now c.args.places.now c.args.t c.requires.prepared c.requires.t_bound c.target_inputs-inputs.ensures;
  attributes = sym (ap words_of c.unwrap-attributes.ensures) ∙ words_same c.args.graph.now c.args.rule.now c.args.images.now c.args.t c.requires.prepared.known c.requires.t_bound _ _ c.vertex_words-found.ensures.given;
}

pub unwrap-attributes-requires : goal.unwrap-attributes-requires
unwrap-attributes-requires c = words_told c.args.graph.now c.args.rule.now c.args.images.now c.args.t c.requires.prepared.known c.requires.t_bound c.vertex_words-found.result c.vertex_words-found.ensures
