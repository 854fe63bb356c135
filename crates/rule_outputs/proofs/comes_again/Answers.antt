use Rattle.std.proofs.Common.{◌∙◌, ◌+◌, sym, rules}
use borrow.Author.Tests.{tests}
use lib.ListN.{get_or}
use Rattle.rule_fields.specs.Fixed.{fixed_of}
use Rattle.rule_fields.proofs.Fixed.{length-source-outputs}
use Rattle.rule_outputs.proofs.Laws.{member_of_rest}
use Rattle.rule_outputs.proofs.comes_again.Goals as goal

pub returns : goal.returns
returns c = let xs = (fixed_of c.args.rule.now).source_outputs in
    member_of_rest (get_or xs c.args.i 255) xs 255 (c.args.i + 1) (c.output_count.ensures.0 ∙ sym (length-source-outputs c.args.rule.now)) _ _ _ c.any.ensures.ran (λ x b q k. search (rules, tests))
