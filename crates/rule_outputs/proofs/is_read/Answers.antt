use Rattle.std.proofs.Common.{◌∙◌, sym, rules}
use borrow.Author.Tests.{tests}
use Rattle.definitions.specs.Lists.{member}
use Rattle.definitions.specs.Rule.{source_of, wildcard}
use Rattle.laws.proofs.Searches.{any_of_places}
use Rattle.rule_fields.specs.Fixed.{fixed_of}
use Rattle.rule_fields.proofs.Fixed.{length-source}
use Rattle.rule_outputs.proofs.is_read.Goals as goal

pub returns : goal.returns
unfolding source_of
returns c = let r = fixed_of c.args.rule.now in
    any_of_places (λ p. member c.args.o p.inputs) r.source wildcard (c.source_count.ensures.0 ∙ sym (length-source c.args.rule.now)) _ _ _ c.any.ensures.ran (λ x b q k. search (rules, tests))
