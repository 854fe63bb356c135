use Rattle.std.proofs.Common.{rules}
use borrow.Author.Tests.{tests}
use lib.Dec.{ltb}
use Rattle.laws.proofs.Searches.{all_of_places}
use Rattle.definitions.specs.Graph.{unused_place, graph_of, inputs_of}
use Rattle.graph_sorted.specs.Sorted.{reads_lower}
use Rattle.graph_sorted.proofs.reads_lower.Goals as goal

pub returns : goal.returns
unfolding reads_lower
returns c = all_of_places (λ u. ltb u c.args.k) (inputs_of (graph_of c.args.graph.now) c.args.k) unused_place c.input_count.ensures.0 _ _ _ c.all.ensures.ran (λ x b q k. search (rules, tests))
