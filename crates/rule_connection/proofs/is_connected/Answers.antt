use Rattle.std.proofs.Common.{◌∙◌, sym, rules}
use borrow.Author.Tests.{tests}
use Rattle.definitions.specs.Lists.{all}
use Rattle.definitions.specs.Rule.{reaches, connected}
use Rattle.laws.proofs.Searches.{any_of_range}
use Rattle.rule_fields.specs.Fixed.{fixed_of}
use Rattle.rule_fields.proofs.Fixed.{length-source}
use Rattle.rule_connection.proofs.is_connected.Goals as goal

pub returns : goal.returns
unfolding connected
returns c = let r = fixed_of c.args.rule.now in
    any_of_range (λ v. all (reaches r v) r.source_outputs) (c.source_count.ensures.0 ∙ sym (length-source c.args.rule.now)) _ _ _ c.any.ensures.ran (λ x b q k. search (rules, tests))
