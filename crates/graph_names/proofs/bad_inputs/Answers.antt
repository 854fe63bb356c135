use Rattle.std.proofs.Common.{rules}
use mathlib.Core.Path.{◌∙◌}
use borrow.Author.Tests.{tests}
use Rattle.laws.proofs.Searches.{first_of_range}
use Rattle.definitions.specs.Graph.{graph_of, bad_inputs}
use Rattle.graph_names.proofs.bad_inputs.Goals as goal

pub returns : goal.returns
unfolding bad_inputs
returns c = c.unwrap_or.ensures ∙ first_of_range (bad_inputs (graph_of c.args.graph.now)) c.slot_count-slots.ensures.0 _ _ _ c.find.ensures.ran (λ x b q k. search (rules, tests))
