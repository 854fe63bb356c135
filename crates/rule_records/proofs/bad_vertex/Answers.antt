use Rattle.std.proofs.Common.{◌∙◌, ap₂, ◌+◌, rules}
use borrow.Author.Tests.{tests}
use Rattle.laws.proofs.Searches.{first_of_range}
use Rattle.definitions.specs.Rule.{bad_vertex_of}
use Rattle.rule_fields.specs.Fixed.{fixed_of}
use Rattle.rule_records.proofs.bad_vertex.Goals as goal

pub returns : goal.returns
returns c = c.unwrap_or.ensures ∙ first_of_range (bad_vertex_of (fixed_of c.args.rule.now) c.args.rule.now) (ap₂ ◌+◌ c.source_count.ensures.0 c.target_count.ensures.0) _ _ _ c.find.ensures.ran (λ x b q k. search (rules, tests))
