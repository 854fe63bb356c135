use mathlib.Core.Path.{sym}
use mathlib.Core.List.{List}
use Prim.Native.Nat.{ℕ, ◌+◌, ◌-◌, ◌<◌}
use native.Mathlib.Omega.{arith}
use borrow.Author.Rules.{rules}
use lib.ListN.{length, drop}
use Rattle.definitions.specs.Lists.{count}
use Rattle.definitions.specs.Graph.{slot_limit, unused_place, graph_of, inputs_of}
use Rattle.laws.proofs.Sums.{total_more}
use Rattle.laws.proofs.Counts.{Counting, counting_starts, counting_turn, counting_room, counting_ends}
use Rattle.graph_uses.specs.Countable.{reads_below}
use Rattle.graph_uses.proofs.Laws.{reads_below_most}
use Rattle.graph_uses.proofs.add_inputs.Goals as goal

pub loop-place-init : goal.loop-place-init
loop-place-init c = counting_starts (inputs_of (graph_of c.args.graph.now) c.args.k) (λ v. sym (total_more (λ w. count v (inputs_of (graph_of c.args.graph.now) w)) c.args.k))
    c.requires.counted

pub overflow_add-uses : goal.overflow_add-uses
overflow_add-uses c = let left : c.loop-place.place < length (inputs_of (graph_of c.args.graph.now) c.args.k) = omega (arith, c.loop-place-test.true, c.input_count-places.ensures.0) in
    omega (
      arith,
      counting_room (inputs_of (graph_of c.args.graph.now) c.args.k) c.loop-place.place unused_place c.input_at-input.result left c.input_at-input.ensures.0 c.loop-place.invariant,
      reads_below_most c.requires.readable (c.args.k + 1) c.input_at-input.result (omega (arith, c.requires.slot)),
      c.requires.slot,
      c.requires.readable.whole.slots,
    )

pub loop-place-preserved : goal.loop-place-preserved
loop-place-preserved c = let left : c.loop-place.place < length (inputs_of (graph_of c.args.graph.now) c.args.k) = omega (arith, c.loop-place-test.true, c.input_count-places.ensures.0) in
    let input_below : c.input_at-input.result < slot_limit = omega (
      arith,
      c.requires.closed.named c.args.k c.loop-place.place c.requires.slot left,
      c.input_at-input.ensures.0,
      c.requires.readable.whole.slots,
    ) in
    counting_turn (inputs_of (graph_of c.args.graph.now) c.args.k) c.loop-place.place unused_place c.input_at-input.result left c.input_at-input.ensures.0
    input_below c.loop-place.invariant

pub returns : goal.returns
returns c = counting_ends (inputs_of (graph_of c.args.graph.now) c.args.k) c.loop-place.place (omega (arith, c.loop-place-test.false, c.input_count-places.ensures.0)) c.loop-place.invariant
