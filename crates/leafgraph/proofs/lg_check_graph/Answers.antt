-- The check's reply, packed.
use mathlib.Core.Path.{◌∙◌, ap}
use Rattle.definitions.specs.Reply.{packed}
use Rattle.laws.proofs.Reply.{valueless_fits}
use Rattle.laws.proofs.Operations.{graph_valueless}
use borrow.Author.Rules.{rules}
use Rattle.leafgraph.proofs.lg_check_graph.Goals as goal

pub pack-requires : goal.pack-requires
pack-requires c = valueless_fits c.check.ensures (graph_valueless c.args.graph.now)
