use Rattle.std.proofs.Common.{◌∙◌, sym, rules}
use borrow.Author.Tests.{tests}
use Rattle.rule_fields.specs.Fixed.{fixed_of}
use Rattle.rule_fields.proofs.Fixed.{length-source-outputs}
use Rattle.rule_outputs.proofs.Laws.{distinct_of_places}
use Rattle.rule_outputs.proofs.are_distinct.Goals as goal

pub returns : goal.returns
returns c = distinct_of_places (fixed_of c.args.rule.now).source_outputs 255 (c.output_count.ensures.0 ∙ sym (length-source-outputs c.args.rule.now)) _ _ _ c.all.ensures.ran (λ x b q k. search (rules, tests))
