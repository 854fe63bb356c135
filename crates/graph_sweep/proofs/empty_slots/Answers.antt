use mathlib.Core.Path.{sym, ◌∙◌}
use Prim.Native.Nat.{◌+◌, ◌<◌, ◌≤◌}
use native.Mathlib.Omega.{arith}
use lib.ListN.{length}
use Rattle.definitions.specs.Graph.{slot_count, record_at}
use Rattle.graph_fields.specs.Layout.{WholeGraph}
use Rattle.graph_check.proofs.Readable.{graph_readable}
use Rattle.graph_slots.proofs.Laws.{empty_length, halfway_write, halfway_keep, halfway_all}
use Rattle.graph_sweep.proofs.Laws.{swept_start, swept_keep, swept_clear, swept_end}
use Rattle.graph_sweep.proofs.empty_slots.Goals as goal

pub slot_count-slots-requires : goal.slot_count-slots-requires
slot_count-slots-requires c = omega (arith, (graph_readable c.args.graph.now c.requires.sound_graph).whole.size)

pub loop-v-init : goal.loop-v-init
loop-v-init c = swept_start c.args.graph.now c.requires.sound_graph (λ at. omega (arith, c.slice_known-1.given at))

pub bounds-unneeded-v : goal.bounds-unneeded-v
bounds-unneeded-v c = let inside : c.loop-v.v < slot_count c.args.graph.now = omega (arith, c.loop-v-test.true, c.slot_count-slots.ensures.0) in
    let whole : WholeGraph c.args.graph.now = (graph_readable c.args.graph.now c.requires.sound_graph).whole in
    omega (arith, inside, whole.slots)

pub clear_slot-requires : goal.clear_slot-requires
clear_slot-requires c = let inside : c.loop-v.v < slot_count c.args.graph.now = omega (arith, c.loop-v-test.true, c.slot_count-slots.ensures.0) in
    let whole : WholeGraph c.args.graph.now = (graph_readable c.args.graph.now c.requires.sound_graph).whole in
    let fits : record_at (c.loop-v.v + 1) ≤ length c.loop-v.graph = omega (arith, inside, whole.size, c.loop-v.invariant.size, swept_end c.args.graph.now c.requires.sound_graph (λ at. omega (arith, c.slice_known-1.given at))) in
    fits

pub loop-v-preserved : goal.loop-v-preserved
loop-v-preserved c = let inside : c.loop-v.v < slot_count c.args.graph.now = omega (arith, c.loop-v-test.true, c.slot_count-slots.ensures.0) in
    let whole : WholeGraph c.args.graph.now = (graph_readable c.args.graph.now c.requires.sound_graph).whole in
    let fits : record_at (c.loop-v.v + 1) ≤ length c.loop-v.graph = omega (arith, inside, whole.size, c.loop-v.invariant.size, swept_end c.args.graph.now c.requires.sound_graph (λ at. omega (arith, c.slice_known-1.given at))) in
    let marked = c.requires.marked.each c.loop-v.v inside in
    elim c.if-unneeded-v.branch [
      | goal.then-unneeded-v w ↦ rw w.graph-is (halfway_write c.loop-v.v c.loop-v.invariant w.clear_slot.ensures fits empty_length
          (swept_clear c.args.graph.now c.requires.sound_graph (λ at. omega (arith, c.slice_known-1.given at)) c.loop-v.v inside (sym marked ∙ w.if-unneeded-v.true)))
      | goal.else-unneeded-v w ↦ rw w.graph-is (halfway_keep c.loop-v.v c.loop-v.invariant
          (swept_keep c.args.graph.now c.requires.sound_graph (λ at. omega (arith, c.slice_known-1.given at)) c.loop-v.v inside (sym marked ∙ w.if-unneeded-v.false)))
    ]

pub returns : goal.returns
returns c = halfway_all c.loop-v.v c.loop-v.invariant
    (omega (arith, swept_end c.args.graph.now c.requires.sound_graph (λ at. omega (arith, c.slice_known-1.given at)), c.loop-v-test.false, c.slot_count-slots.ensures.0))
