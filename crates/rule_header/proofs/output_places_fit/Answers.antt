use Rattle.std.proofs.Common.{◌≡◌, ◌+◌, arith, rules}
use Rattle.std.proofs.lemmas.Grind.{common_steps}
use borrow.Author.Tests.{tests}
use lib.Dec.{ltb}
use Rattle.laws.proofs.Searches.{all_of_range}
use Rattle.definitions.specs.Lists.{all_below}
use Rattle.definitions.specs.Fields.{byte_at}
use Rattle.definitions.specs.Rule.{source_count, rule_output_count, rule_output_places_fit}
use Rattle.rule_header.proofs.output_places_fit.Goals as goal

pub returns-then-is_filled : goal.returns-then-is_filled
unfolding rule_output_places_fit
returns-then-is_filled c = let named : c.all.result ≡ all_below (λ i. ltb (byte_at c.args.rule.now (10 + i)) (source_count c.args.rule.now)) (rule_output_count c.args.rule.now) = all_of_range _ c.output_count-outputs.ensures.0 _ _ _ c.all.ensures.ran (λ x b q k. search (rules, tests)) in grind (arith, common_steps)

pub returns-else-is_filled : goal.returns-else-is_filled
unfolding rule_output_places_fit
returns-else-is_filled c = let named : c.all.result ≡ all_below (λ i. ltb (byte_at c.args.rule.now (10 + i)) (source_count c.args.rule.now)) (rule_output_count c.args.rule.now) = all_of_range _ c.output_count-outputs.ensures.0 _ _ _ c.all.ensures.ran (λ x b q k. search (rules, tests)) in grind (arith, common_steps)
