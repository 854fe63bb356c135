-- The reply, packed; and what is lent are slices of bytes.
use mathlib.Core.Path.{ap, ◌∙◌}
use native.Mathlib.Omega.{arith}
use Rattle.definitions.specs.Reply.{packed}
use Rattle.laws.proofs.Reply.{valueless_fits}
use Rattle.laws.proofs.Operations.{squeeze_valueless}
use borrow.Author.Rules.{rules}
use Rattle.leafgraph.proofs.lg_squeeze.Goals as goal

pub pack-requires : goal.pack-requires
pack-requires c = valueless_fits c.squeeze.ensures.value (squeeze_valueless c.args.graph.now c.args.moves.now)
