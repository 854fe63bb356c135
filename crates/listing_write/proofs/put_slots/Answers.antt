use mathlib.Core.Path.{refl, sym}
use Prim.Native.Nat.{◌<◌}
use native.Mathlib.Omega.{arith}
use Rattle.definitions.specs.Graph.{slot_count, graph_of}
use Rattle.listing_print.proofs.Laying.{laid_none, laid_then, laid_as, room_next}
use Rattle.listing_write.specs.Parts.{slot_text, slots_text}
use Rattle.listing_write.proofs.Slots.{slots_none, slots_more, slots-room}
use Rattle.listing_write.proofs.put_slots.Goals as goal

pub loop-k-init : goal.loop-k-init
loop-k-init c = (refl, laid_as (sym (slots_none (graph_of c.args.graph.now))) (laid_none c.args.at c.args.text.now))

pub loop-k-preserved : goal.loop-k-preserved
loop-k-preserved c = (
  omega (arith, c.loop-k.invariant.0, c.text-1.given),
  laid_as (sym (slots_more (graph_of c.args.graph.now) c.loop-k.k)) (laid_then c.loop-k.invariant.1 c.put_slot-end.ensures),
)

pub put_slot-end-requires-clause-k_bound_2 : goal.put_slot-end-requires-clause-k_bound_2
put_slot-end-requires-clause-k_bound_2 c = let g = graph_of c.args.graph.now in
    let inside : c.loop-k.k < slot_count c.args.graph.now = omega (arith, c.slot_count-slots.ensures.0) in room_next (slots_text g c.loop-k.k) (slot_text g c.loop-k.k) c.args.at
    (slots-room g (slot_count c.args.graph.now) c.loop-k.k c.args.at inside c.requires.graph_bound) c.loop-k.invariant.1
