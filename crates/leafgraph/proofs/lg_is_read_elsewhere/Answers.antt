-- The definition's reply, packed: its value is 0 or 1.
use mathlib.Core.Path.{ap, ◌∙◌}
use Rattle.definitions.specs.Reply.{packed}
use Rattle.laws.proofs.Operations.{elsewhere_fits}
use borrow.Author.Rules.{rules}
use Rattle.leafgraph.proofs.lg_is_read_elsewhere.Goals as goal

pub pack-requires : goal.pack-requires
pack-requires c = rw c.is_read_elsewhere.ensures (elsewhere_fits c.args.graph.now c.args.rule.now c.args.map.now c.args.vertex)
