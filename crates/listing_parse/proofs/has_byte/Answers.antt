-- A byte that stands there is inside the text.
use borrow.Author.Tests.{lt-ltb, le-ltb}
use lib.ListN.{length}
use Rattle.listing_parse.specs.Parts.{has_byte}
use Rattle.listing_parse.proofs.has_byte.Goals as goal

pub returns-then-at-text : goal.returns-then-at-text
unfolding has_byte
returns-then-at-text c = rw (lt-ltb c.args.at (length c.args.text.now) c.if-at-text.true)

pub returns-else-at-text : goal.returns-else-at-text
unfolding has_byte
returns-else-at-text c = rw (le-ltb c.args.at (length c.args.text.now) c.if-at-text.false)
