-- Any agrees with everything, and another node with exactly what it gives.
use mathlib.Core.Path.{sym, ◌∙◌}
use native.Mathlib.Omega.{arith}
use lib.ListN.{get_or}
use Rattle.std.proofs.lemmas.Int.{to_z-of_z}
use Rattle.definitions.specs.Fields.{signed}
use Rattle.definitions.specs.Graph.{graph_of, slot_of}
use Rattle.definitions.specs.Rule.{anything, source_of}
use Rattle.definitions.specs.Match.{read_attribute}
use Rattle.rule_fields.specs.Fixed.{fixed_of}
use Rattle.numbers.specs.Value.{value_of}
use Rattle.attributes.proofs.Laws.{source_node, any-agrees, result-agrees, same_result}
use Rattle.attributes.proofs.attribute_agrees.Goals as goal

pub node_form-requires-clause-k_bound : goal.node_form-requires-clause-k_bound
node_form-requires-clause-k_bound c = source_node c.requires.evaluation c.requires.source_attribute c.source_attribute-k.ensures.value

pub returns-then-node_form-eq-FORM_ANY : goal.returns-then-node_form-eq-FORM_ANY
returns-then-node_form-eq-FORM_ANY c = let graph = graph_of c.args.graph.now in
    any-agrees c.args.rule.now c.source_attribute-k.result (source_node c.requires.evaluation c.requires.source_attribute c.source_attribute-k.ensures.value)
    (read_attribute graph c.args.images.now) (get_or (source_of (fixed_of c.args.rule.now) c.args.j).attributes c.args.i anything)
    (signed (get_or (slot_of graph c.args.v).attributes c.args.i 0)) c.source_attribute-k.ensures.result_value
    (sym c.node_form.ensures.0 ∙ c.if-node_form-eq-FORM_ANY.true)

pub node_value-requires-clause-k_bound : goal.node_value-requires-clause-k_bound
node_value-requires-clause-k_bound c = source_node c.requires.evaluation c.requires.source_attribute c.source_attribute-k.ensures.value

pub returns : goal.returns
returns c = let graph = graph_of c.args.graph.now in
    let inside = source_node c.requires.evaluation c.requires.source_attribute c.source_attribute-k.ensures.value in
    let same = same_result c.node_value.result c.attribute_at-found.result in
    grind (arith, to_z-of_z, c.eq.ensures, same) ∙ result-agrees c.args.rule.now c.source_attribute-k.result inside (read_attribute graph c.args.images.now)
    (get_or (source_of (fixed_of c.args.rule.now) c.args.j).attributes c.args.i anything)
    (signed (get_or (slot_of graph c.args.v).attributes c.args.i 0)) c.source_attribute-k.ensures.result_value
    (value_of c.node_value.result) c.attribute_at-found.result c.node_value.ensures c.attribute_at-found.ensures
    (c.requires.evaluation.evaluable.nodes c.source_attribute-k.result inside) (λ z. c.if-node_form-eq-FORM_ANY.false (c.node_form.ensures.0 ∙ z))
