use Rattle.std.proofs.Common.{rules}
use borrow.Author.Tests.{tests}
use Rattle.laws.proofs.Searches.{all_of_places}
use Rattle.definitions.specs.Graph.{unused_place, graph_of, inputs_of, is_vertex}
use Rattle.graph_names.proofs.inputs_named.Goals as goal

pub returns : goal.returns
returns c =
    let g = graph_of c.args.graph.now in
    all_of_places (is_vertex g) (inputs_of g c.args.k) unused_place c.input_count.ensures.0 _ _ _ c.all.ensures.ran (λ x b q k. search (rules, tests))
