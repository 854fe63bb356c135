-- The reply, packed: a listing's length fits into the value; and the graph that is lent is a slice of bytes.
use mathlib.Core.Path.{ap, ◌∙◌}
use native.Mathlib.Omega.{arith}
use borrow.Author.Rules.{rules}
use Rattle.definitions.specs.Fields.{Bytes}
use Rattle.definitions.specs.Reply.{value_beside, packed}
use Rattle.listing_write.proofs.Outcome.{write_small}
use Rattle.leafgraph.proofs.lg_write_listing.Goals as goal

pub pack-requires : goal.pack-requires
pack-requires c = omega (arith, ap value_beside c.write_listing.ensures.value, write_small c.args.graph.now c.args.text.now (λ at. omega (arith, c.shared_slice_known-1.given at)))
