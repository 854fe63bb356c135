use Rattle.std.proofs.Common.{◌∙◌, sym, rules}
use borrow.Author.Tests.{tests}
use Rattle.laws.proofs.Searches.{all_of_places}
use Rattle.rule_fields.specs.Fixed.{fixed_of}
use Rattle.rule_fields.proofs.Fixed.{length-source-outputs}
use Rattle.rule_outputs.specs.Outputs.{may_be_output}
use Rattle.rule_outputs.proofs.may_all_be_outputs.Goals as goal

pub returns : goal.returns
returns c = let r = fixed_of c.args.rule.now in
    all_of_places (may_be_output r) r.source_outputs 255 (c.output_count.ensures.0 ∙ sym (length-source-outputs c.args.rule.now)) _ _ _ c.all.ensures.ran (λ x b q k. search (rules, tests))
