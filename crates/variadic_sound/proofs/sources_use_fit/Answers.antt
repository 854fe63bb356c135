use mathlib.Core.Path.{sym, ◌∙◌}
use Rattle.std.proofs.Common.{rules}
use borrow.Author.Tests.{tests}
use Rattle.definitions.specs.FixedRule.{source_uses_fit}
use Rattle.rule_fields.specs.Fixed.{fixed_of}
use Rattle.rule_fields.proofs.Fixed.{length-source}
use Rattle.laws.proofs.Searches.{all_of_range}
use Rattle.variadic_sound.proofs.sources_use_fit.Goals as goal

pub returns : goal.returns
returns c = all_of_range (source_uses_fit (fixed_of c.args.rule.now)) (c.source_count.ensures.0 ∙ sym (length-source c.args.rule.now)) _ _ _ c.all.ensures.ran (λ x b q k. search (rules, tests))
