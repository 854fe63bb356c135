use mathlib.Core.Path.{refl}
use mathlib.Core.List.{List}
use Prim.Native.Nat.{ℕ, ◌-◌, ◌<◌}
use native.Mathlib.Omega.{arith}
use lib.ListN.{length, drop}
use Rattle.definitions.specs.Graph.{slot_limit, unused_place, graph_of, true_count}
use Rattle.laws.proofs.Graph.{length-outputs}
use Rattle.laws.proofs.Counts.{Counting, counting_starts, counting_turn, counting_room, counting_ends}
use Rattle.graph_uses.proofs.Laws.{uses_most}
use Rattle.graph_uses.proofs.add_outputs.Goals as goal

pub loop-i-init : goal.loop-i-init
unfolding true_count
loop-i-init c = counting_starts ((graph_of c.args.graph.now).outputs) (λ v. refl) c.requires.counted

pub overflow_add-uses : goal.overflow_add-uses
overflow_add-uses c = let left : c.loop-i.i < length ((graph_of c.args.graph.now).outputs) = omega (
  arith,
  c.loop-i-test.true,
  c.output_count-outputs.ensures.0,
  length-outputs c.args.graph.now,
) in
    omega (
      arith,
      counting_room ((graph_of c.args.graph.now).outputs) c.loop-i.i unused_place c.output_at-output.result left c.output_at-output.ensures.0 c.loop-i.invariant,
      uses_most c.requires.readable c.output_at-output.result,
      c.requires.readable.whole.slots,
    )

pub loop-i-preserved : goal.loop-i-preserved
loop-i-preserved c = let left : c.loop-i.i < length ((graph_of c.args.graph.now).outputs) = omega (
  arith,
  c.loop-i-test.true,
  c.output_count-outputs.ensures.0,
  length-outputs c.args.graph.now,
) in
    let output_below : c.output_at-output.result < slot_limit = omega (
      arith,
      c.requires.outputs.named c.loop-i.i (omega (arith, left, length-outputs c.args.graph.now)),
      c.output_at-output.ensures.0,
      c.requires.readable.whole.slots,
    ) in
    counting_turn ((graph_of c.args.graph.now).outputs) c.loop-i.i unused_place c.output_at-output.result left c.output_at-output.ensures.0
    output_below c.loop-i.invariant

pub returns : goal.returns
returns c = counting_ends ((graph_of c.args.graph.now).outputs) c.loop-i.i
    (omega (arith, c.loop-i-test.false, c.output_count-outputs.ensures.0, length-outputs c.args.graph.now)) c.loop-i.invariant
