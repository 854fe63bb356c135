use Rattle.std.proofs.Common.{rules}
use borrow.Author.Tests.{tests}
use Rattle.definitions.specs.Rule.{source_inputs}
use Rattle.laws.proofs.Searches.{member_of_places}
use Rattle.rule_fields.specs.Fixed.{fixed_of}
use Rattle.rule_outputs.proofs.source_reads.Goals as goal

pub returns : goal.returns
returns c = member_of_places c.args.o (source_inputs (fixed_of c.args.rule.now) c.args.j) 255 c.source_input_count.ensures.0 _ _ _ c.any.ensures.ran (λ x b q k. search (rules, tests))
