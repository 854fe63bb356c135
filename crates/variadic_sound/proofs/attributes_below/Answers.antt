use Rattle.std.proofs.Common.{rules, get_or}
use borrow.Author.Tests.{tests}
use lib.Dec.{leb}
use Rattle.rule_fields.specs.Fixed.{attribute_node}
use Rattle.laws.proofs.Searches.{all_of_range}
use Rattle.variadic_sound.proofs.attributes_below.Goals as goal

pub returns : goal.returns
returns c = all_of_range (λ i. leb (get_or c.args.tops.now (attribute_node c.args.rule.now c.args.v i) 0) c.args.limit) c.byte_at-count.ensures.0 _ _ _ c.all.ensures.ran (λ x b q k. search (rules, tests))
