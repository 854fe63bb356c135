use mathlib.Core.Path.{refl, ◌∙◌}
use Rattle.std.proofs.Common.{rules}
use borrow.Author.Tests.{tests}
use Rattle.laws.proofs.Searches.{first_of_range}
use Rattle.variadic_templates.specs.Templates.{bad_templates}
use Rattle.variadic_templates.proofs.bad_templates.Goals as goal

pub returns : goal.returns
returns c = c.unwrap_or.ensures ∙ first_of_range (bad_templates c.args.rule.now) refl _ _ _ c.find.ensures.ran (λ x b q k. search (rules, tests))
