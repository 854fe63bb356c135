use mathlib.Core.Path.{sym, ◌∙◌}
use Rattle.std.proofs.Common.{rules}
use borrow.Author.Tests.{tests}
use Rattle.definitions.specs.FixedRule.{target_uses_fit}
use Rattle.rule_fields.specs.Fixed.{fixed_of}
use Rattle.rule_fields.proofs.Fixed.{length-target}
use Rattle.laws.proofs.Searches.{all_of_range}
use Rattle.variadic_sound.proofs.targets_use_fit.Goals as goal

pub returns : goal.returns
returns c = all_of_range (target_uses_fit (fixed_of c.args.rule.now)) (c.target_count.ensures.0 ∙ sym (length-target c.args.rule.now)) _ _ _ c.all.ensures.ran (λ x b q k. search (rules, tests))
