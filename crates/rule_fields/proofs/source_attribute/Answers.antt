-- The attribute is the expression of its node.
use mathlib.Core.Path.{sym, ap, ◌∙◌}
use native.Mathlib.Omega.{arith}
use Rattle.definitions.specs.Rule.{anything}
use Rattle.rule_fields.specs.Fixed.{expression_in}
use Rattle.rule_fields.proofs.Fixed.{source-attributes-at, source_attribute_at, attribute_expression}
use Rattle.rule_fields.proofs.source_attribute.Goals as goal

pub attribute_node-requires-clause-i_lt_attribute_limit : goal.attribute_node-requires-clause-i_lt_attribute_limit
attribute_node-requires-clause-i_lt_attribute_limit c = let block = c.args.rule.now in
    let few = c.requires.readable_rule.attributes c.args.j (omega arith) in omega (arith, few, source-attributes-at block c.args.j c.requires.j_bound)

pub returns-clause-result_value : goal.returns-clause-result_value
returns-clause-result_value c = let block = c.args.rule.now in ap (expression_in block) c.attribute_node.ensures
    ∙ attribute_expression block c.args.j c.args.i
    ∙ sym (source_attribute_at block c.args.j c.args.i anything c.requires.j_bound c.requires.i_in_bounds)
