use mathlib.Core.Path.{refl, sym, ap, ◌∙◌}
use Prim.Native.Nat.{ℕ, ◌<◌, ◌≤◌}
use native.Mathlib.Omega.{arith}
use Rattle.definitions.specs.Lists.{padded}
use Rattle.definitions.specs.Graph.{slot_limit, unused_place, output_count}
use Rattle.laws.proofs.Lists.{get_or_any}
use Rattle.laws.proofs.Graph.{length-outputs}
use Rattle.laws.proofs.Filling.{filling_none, filling_more}
use Rattle.graph_moves.specs.Moving.{name_in}
use Rattle.graph_moves.proofs.renamed_outputs.Goals as goal

below_limit : {v n : ℕ} → v < n → n ≤ slot_limit → v < slot_limit
below_limit l m = omega arith

pub loop-i-init : goal.loop-i-init
unfolding padded
loop-i-init c = filling_none (c.output_count-count.ensures.0 ∙ sym (length-outputs c.args.graph.now)) (omega (arith, c.output_count-count.ensures.0, c.requires.whole_graph.outputs)) refl

pub loop-i-preserved : goal.loop-i-preserved
loop-i-preserved c = let one_left : c.loop-i.i < output_count c.args.graph.now = omega (arith, c.loop-i-test.true, c.output_count-count.ensures.0) in
    let named : c.output_at.result < slot_limit = rw c.output_at.ensures.0
    (below_limit (c.requires.outputs_named.named _ (omega (arith, one_left))) c.requires.whole_graph.slots) in
    filling_more unused_place c.loop-i.invariant c.loop-i-test.true
    (get_or_any c.args.to.now c.output_at.result 0 unused_place (omega (arith, named, c.requires.to_len)) ∙ ap (name_in c.args.to.now) c.output_at.ensures.0)
