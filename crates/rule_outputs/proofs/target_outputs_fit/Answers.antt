use Rattle.std.proofs.Common.{◌∙◌, sym, rules}
use borrow.Author.Tests.{tests}
use Rattle.definitions.specs.Rule.{made, origin_fits}
use Rattle.laws.proofs.Searches.{all_of_places}
use Rattle.rule_fields.specs.Fixed.{fixed_of}
use Rattle.rule_fields.proofs.Fixed.{length-target, length-target-outputs}
use Rattle.rule_outputs.proofs.target_outputs_fit.Goals as goal

pub returns : goal.returns
returns c = let block = c.args.rule.now in
    let r = fixed_of block in
    rw (length-target block, ← c.target_count-vertices.ensures.0)
    (all_of_places (origin_fits r c.target_count-vertices.result) r.target_outputs (made 255) (c.output_count.ensures.0 ∙ sym (length-target-outputs block)) _ _ _ c.all.ensures.ran (λ x b q k. search (rules, tests)))
