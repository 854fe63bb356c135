-- The tests are the definition's: an image that is no slot, or a place that the slot does not have, gives nothing.
use mathlib.Core.Path.{◌∙◌, ap}
use mathlib.Core.Option.{some}
use native.Mathlib.Omega.{arith}
use Rattle.std.proofs.lemmas.Int.{to_z-of_z}
use Rattle.numbers.specs.Value.{value_of}
use Rattle.match_leaves.proofs.Laws.{read_no_slot, read_zero, read_past, read-within}
use Rattle.match_leaves.proofs.read_attribute.Goals as goal

pub returns-then-slot_count-image : goal.returns-then-slot_count-image
unfolding value_of
returns-then-slot_count-image c = read_no_slot c.args.graph.now c.args.images.now c.args.v c.args.b c.from-image.result (omega arith)
    c.from-image.ensures (omega (arith, c.slot_count.ensures.0, c.if-slot_count-image.true))

pub returns-then-b-lt1 : goal.returns-then-b-lt1
unfolding value_of
returns-then-b-lt1 c = read_zero c.args.graph.now c.args.images.now c.args.v c.args.b c.from-image.result (omega arith)
    c.from-image.ensures c.if-b-lt1.true

pub returns-then-attribute_count-b : goal.returns-then-attribute_count-b
unfolding value_of
returns-then-attribute_count-b c = read_past c.args.graph.now c.args.images.now c.args.v c.args.b c.from-image.result (omega arith)
    c.from-image.ensures (omega (arith, c.attribute_count.ensures.0, c.if-attribute_count-b.true))

pub returns : goal.returns
unfolding value_of
returns c = ap some (grind (arith, to_z-of_z, c.attribute_at.ensures))
    ∙ read-within c.args.graph.now c.args.images.now c.args.v c.args.b c.from-image.result (omega arith)
    c.from-image.ensures c.if-b-lt1.false (omega (arith, c.attribute_count.ensures.0, c.if-attribute_count-b.false))
