-- The two kinds are tested in the definition's order.
use Rattle.std.proofs.Common.{arith}
use Rattle.std.proofs.lemmas.Grind.{common_steps}
use Rattle.definitions.specs.Rule.{input_kind, is_rule_input}
use Rattle.rule_fields.proofs.Fixed.{length-source}
use Rattle.rule_fields.proofs.is_rule_input.Goals as goal

pub returns-in-0 : goal.returns-in-0
unfolding is_rule_input input_kind
returns-in-0 c = grind (arith, common_steps, length-source)

pub returns-in_default : goal.returns-in_default
unfolding is_rule_input input_kind
returns-in_default c = grind (arith, common_steps, length-source)

pub returns-else-j-source_count : goal.returns-else-j-source_count
unfolding is_rule_input input_kind
returns-else-j-source_count c = grind (arith, common_steps, length-source)
