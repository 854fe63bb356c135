-- The attribute is the expression of its node.
use mathlib.Core.Path.{◌≡◌, sym, ap, ◌∙◌}
use Prim.Native.Nat.{ℕ, ◌+◌}
use native.Mathlib.Omega.{arith}
use Rattle.definitions.specs.Rule.{source_count, anything}
use Rattle.rule_fields.specs.Fixed.{expression_in, attribute_node}
use Rattle.rule_fields.proofs.Fixed.{target-attributes-at, target_attribute_at, attribute_expression}
use Rattle.rule_fields.proofs.target_attribute.Goals as goal

pub attribute_node-requires-clause-i_lt_attribute_limit : goal.attribute_node-requires-clause-i_lt_attribute_limit
attribute_node-requires-clause-i_lt_attribute_limit c = let block = c.args.rule.now in
    let few = c.requires.readable_rule.attributes (source_count block + c.args.t) (omega arith) in omega (arith, few, target-attributes-at block c.args.t c.requires.t_bound)

pub returns-clause-result_value : goal.returns-clause-result_value
returns-clause-result_value c = let block = c.args.rule.now in
    let node : c.attribute_node.result ≡ attribute_node block (source_count block + c.args.t) c.args.i =
    c.attribute_node.ensures ∙ ap (λ (v : ℕ). attribute_node block v c.args.i) c.target_vertex.ensures in ap (expression_in block) node
    ∙ attribute_expression block (source_count block + c.args.t) c.args.i
    ∙ sym (target_attribute_at block c.args.t c.args.i anything c.requires.t_bound c.requires.i_in_bounds)
