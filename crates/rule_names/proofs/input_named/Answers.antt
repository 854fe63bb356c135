-- A rule input's place number is its own number.
use mathlib.Core.Path.{sym, ap, ◌∙◌}
use native.Mathlib.Omega.{arith}
use Rattle.definitions.specs.Rule.{named}
use Rattle.rule_fields.specs.Fixed.{split_in, fixed_of}
use Rattle.rule_names.proofs.Laws.{given_place}
use Rattle.rule_names.proofs.input_named.Goals as goal

pub returns-else-not-is_rule_input : goal.returns-else-not-is_rule_input
returns-else-not-is_rule_input c = simp (sym c.is_rule_input.ensures ∙ c.if-not-is_rule_input.false)
    (c.requires.names_marked c.args.j ∙ ap (named (fixed_of c.args.rule.now)) (given_place (split_in c.args.rule.now) c.args.j (omega (arith, c.requires.whole_rule.split))))
