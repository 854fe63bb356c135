use Rattle.std.proofs.Common.{rules}
use borrow.Author.Tests.{tests}
use Rattle.laws.proofs.Searches.{all_of_range}
use Rattle.definitions.specs.Graph.{graph_of, inputs_of}
use Rattle.graph_sorted.specs.Sorted.{reads_lower, sorted}
use Rattle.graph_sorted.proofs.is_sorted.Goals as goal

pub returns : goal.returns
unfolding sorted
returns c = all_of_range (reads_lower (inputs_of (graph_of c.args.graph.now))) c.slot_count.ensures.0 _ _ _ c.all.ensures.ran (λ x b q k. search (rules, tests))
