use mathlib.Core.Path.{◌≡◌, sym, ap, ap₂, ◌∙◌}
use mathlib.Core.List.{List}
use Prim.Native.Nat.{ℕ, ◌+◌, ◌-◌, ◌<◌, ◌≤◌}
use native.Mathlib.Omega.{arith}
use lib.ListN.{length, get_or}
use Rattle.definitions.specs.Graph.{slot_limit, slot_count, record_at, graph_of, true_count}
use Rattle.graph_fields.specs.Layout.{WholeGraph}
use Rattle.graph_slots.specs.Written.{Halfway}
use Rattle.graph_slots.proofs.Laws.{halfway_write, halfway_all, halfway_slot}
use Rattle.graph_counts.specs.Recounted.{with_count, recounted}
use Rattle.graph_counts.proofs.Laws.{with_length, recounted-length, recounted-slot, recounted-start}
use Rattle.graph_counts.proofs.store_counts.Goals as goal

pub loop-k-init : goal.loop-k-init
loop-k-init c = recounted-start c.args.graph.now c.requires.readable.whole

pub loop-k-preserved : goal.loop-k-preserved
loop-k-preserved c = let inside : c.loop-k.k < slot_count c.args.graph.now = omega (arith, c.loop-k-test.true, c.slot_count-slots.ensures.0) in
    let whole : WholeGraph c.args.graph.now = c.requires.readable.whole in
    let fits : record_at (c.loop-k.k + 1) ≤ length c.loop-k.graph = omega (arith, inside, c.loop-k.invariant.size, recounted-length c.args.graph.now whole) in
    let n = get_or c.count_uses-uses.result c.loop-k.k 0 in
    let slot = halfway_slot c.loop-k.k c.loop-k.invariant in
    let true_count_lem : true_count (graph_of c.args.graph.now) c.loop-k.k ≡ n = sym (c.count_uses-uses.ensures.1 c.loop-k.k inside) in
    halfway_write c.loop-k.k c.loop-k.invariant c.store_count.ensures fits
    (ap (λ (b : List ℕ). length (with_count n b)) slot ∙ with_length c.args.graph.now whole n c.loop-k.k inside)
    (recounted-slot c.args.graph.now whole c.loop-k.k inside ∙ ap₂ with_count true_count_lem (sym slot))
