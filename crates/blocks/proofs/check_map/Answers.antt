-- The length decides.
use borrow.Author.Tests.{eq-eqb, ne_eqb}
use Rattle.definitions.specs.Operations.{map_bytes, map_reply}
use Rattle.blocks.proofs.check_map.Goals as goal

pub returns-then-map-ne-MAP_BYTES : goal.returns-then-map-ne-MAP_BYTES
unfolding map_reply
returns-then-map-ne-MAP_BYTES c = simp (ne_eqb _ map_bytes c.if-map-ne-MAP_BYTES.true) c.refuse.ensures

pub returns : goal.returns
unfolding map_reply
returns c = simp (eq-eqb _ map_bytes c.if-map-ne-MAP_BYTES.false)
