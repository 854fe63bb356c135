use Rattle.std.proofs.Common.{◌∙◌, sym, rules}
use borrow.Author.Tests.{tests}
use Rattle.laws.proofs.Searches.{member_of_places}
use Rattle.rule_fields.specs.Fixed.{fixed_of}
use Rattle.rule_fields.proofs.Fixed.{length-source-outputs}
use Rattle.rule_uses.proofs.is_source_output.Goals as goal

pub returns : goal.returns
returns c = member_of_places c.args.j (fixed_of c.args.rule.now).source_outputs 255 (c.output_count.ensures.0 ∙ sym (length-source-outputs c.args.rule.now)) _ _ _ c.any.ensures.ran (λ x b q k. search (rules, tests))
