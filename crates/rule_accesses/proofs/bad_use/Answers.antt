use Rattle.std.proofs.Common.{◌∙◌, ap₂, ◌+◌, rules}
use borrow.Author.Tests.{tests}
use Rattle.laws.proofs.Searches.{first_of_range}
use Rattle.definitions.specs.Rule.{bad_use}
use Rattle.rule_accesses.proofs.bad_use.Goals as goal

pub returns : goal.returns
returns c = c.unwrap_or.ensures ∙ first_of_range (bad_use c.args.rule.now) (ap₂ ◌+◌ c.source_count.ensures.0 c.target_count.ensures.0) _ _ _ c.find.ensures.ran (λ x b q k. search (rules, tests))
