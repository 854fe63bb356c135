-- The reply, packed: none has a value.
use mathlib.Core.Path.{refl}
use borrow.Author.Rules.{rules}
use Rattle.laws.proofs.Reply.{valueless_fits}
use Rattle.listing_read.proofs.Outcome.{read_valueless}
use Rattle.leafgraph.proofs.lg_read_listing.Goals as goal

pub pack-requires : goal.pack-requires
pack-requires c = valueless_fits refl (read_valueless c.read_listing.ensures)
