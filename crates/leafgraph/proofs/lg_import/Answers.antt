-- The reply, packed; and what is lent is a slice of bytes.
use mathlib.Core.Path.{ap, ◌∙◌}
use native.Mathlib.Omega.{arith}
use Rattle.definitions.specs.Reply.{packed}
use Rattle.laws.proofs.Reply.{valueless_fits}
use Rattle.laws.proofs.Operations.{import_valueless}
use borrow.Author.Rules.{rules}
use Rattle.leafgraph.proofs.lg_import.Goals as goal

pub pack-requires : goal.pack-requires
pack-requires c = valueless_fits c.import.ensures.value (import_valueless c.args.graph.now)
