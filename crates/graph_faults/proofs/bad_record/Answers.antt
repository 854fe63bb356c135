use Rattle.std.proofs.Common.{rules}
use mathlib.Core.Path.{◌∙◌}
use borrow.Author.Tests.{tests}
use Rattle.laws.proofs.Searches.{first_of_range}
use Rattle.definitions.specs.Graph.{bad_record}
use Rattle.graph_faults.proofs.bad_record.Goals as goal

pub returns : goal.returns
unfolding bad_record
returns c = c.unwrap_or.ensures ∙ first_of_range (bad_record c.args.version c.args.graph.now) c.slot_count-slots.ensures.0 _ _ _ c.find.ensures.ran (λ x b q k. search (rules, tests))
