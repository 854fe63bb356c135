use Rattle.std.proofs.Common.{false, rules}
use borrow.Author.Tests.{tests}
use lib.ListN.{get_or}
use Rattle.definitions.specs.Rule.{source_inputs}
use Rattle.laws.proofs.Searches.{any_of_places}
use Rattle.rule_fields.specs.Fixed.{fixed_of}
use Rattle.rule_connection.proofs.has_marked_input.Goals as goal

pub returns : goal.returns
returns c = any_of_places (λ u. get_or c.args.found.now u false) (source_inputs (fixed_of c.args.rule.now) c.args.w) 255 c.source_input_count.ensures.0 _ _ _ c.any.ensures.ran (λ x b q k. search (rules, tests))
