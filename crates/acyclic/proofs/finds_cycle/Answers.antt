use mathlib.Core.Path.{◌≡◌}
use mathlib.Core.List.{List}
use Prim.Native.Nat.{ℕ, ◌+◌, ◌-◌, ◌<◌}
use native.Mathlib.Omega.{arith}
use lib.ListN.{length, get_or}
use Rattle.definitions.specs.Graph.{unused_place, slot_count, graph_of, inputs_of}
use Rattle.definitions.specs.Paths.{Reads}
use Rattle.acyclic.specs.Search.{Sized}
use Rattle.laws.proofs.Members.{mem-at}
use Rattle.acyclic.proofs.Laws.{room, room_set, sized_progress, sized_parent, Search, Present, present, finished_grounded, closes, pass, enter, leave, end, begin, since, again, found, table}
use Rattle.acyclic.proofs.finds_cycle.Goals as goal

pub loop-progress-init : goal.loop-progress-init
loop-progress-init c = let root-held : c.args.root < length c.args.progress.now = omega (arith, c.requires.ready.readable.whole.slots, c.requires.ready.sized.progress) in (
  begin c.args.progress.now c.args.parent.now c.requires.ready.quiet c.requires.root_bound root-held,
  sized_progress c.args.root 1 c.requires.ready.sized,
)

pub overflow_sub-passed : goal.overflow_sub-passed
overflow_sub-passed c = let known : Present (inputs_of (graph_of c.args.graph.now)) (slot_count c.args.graph.now) c.loop-progress.at (get_or c.loop-progress.progress c.loop-progress.at 0) = present c.loop-progress.invariant.0 in
    (known).some

pub loop-progress-smaller-then-passed-input_count : goal.loop-progress-smaller-then-passed-input_count
loop-progress-smaller-then-passed-input_count c = let known : Present (inputs_of (graph_of c.args.graph.now)) (slot_count c.args.graph.now) c.loop-progress.at (get_or c.loop-progress.progress c.loop-progress.at 0) = present c.loop-progress.invariant.0 in
    let below : c.loop-progress.at < 512 = omega (arith, known.inside, c.requires.ready.readable.whole.slots) in
    let held : c.loop-progress.at < length c.loop-progress.progress = omega (arith, below, c.loop-progress.invariant.1.progress) in
    room_set c.loop-progress.progress c.loop-progress.at 8 held known.under known.under

pub loop-progress-preserved-then-passed-input_count : goal.loop-progress-preserved-then-passed-input_count
loop-progress-preserved-then-passed-input_count c = let known : Present (inputs_of (graph_of c.args.graph.now)) (slot_count c.args.graph.now) c.loop-progress.at (get_or c.loop-progress.progress c.loop-progress.at 0) = present c.loop-progress.invariant.0 in
    let below : c.loop-progress.at < 512 = omega (arith, known.inside, c.requires.ready.readable.whole.slots) in
    let held : c.loop-progress.at < length c.loop-progress.progress = omega (arith, below, c.loop-progress.invariant.1.progress) in
    let none_left : (get_or c.loop-progress.progress c.loop-progress.at 0) ≡ 1 + length ((inputs_of (graph_of c.args.graph.now)) c.loop-progress.at) = omega (arith, c.if-passed-input_count.true, c.input_count.ensures.0, known.some) in (
      leave c.loop-progress.invariant.0 held none_left c.if-at-root.false,
      sized_progress c.loop-progress.at 8 c.loop-progress.invariant.1,
    )

pub bounds-progress-input : goal.bounds-progress-input
bounds-progress-input c = let known : Present (inputs_of (graph_of c.args.graph.now)) (slot_count c.args.graph.now) c.loop-progress.at (get_or c.loop-progress.progress c.loop-progress.at 0) = present c.loop-progress.invariant.0 in
    let one_left : (get_or c.loop-progress.progress c.loop-progress.at 0) - 1 < length ((inputs_of (graph_of c.args.graph.now)) c.loop-progress.at) = omega (arith, c.if-passed-input_count.false, c.input_count.ensures.0, known.most) in
    let input_read : Reads (inputs_of (graph_of c.args.graph.now)) c.loop-progress.at c.input_at-input.result = rw c.input_at-input.ensures.0 (mem-at ((inputs_of (graph_of c.args.graph.now)) c.loop-progress.at) ((get_or c.loop-progress.progress c.loop-progress.at 0) - 1) unused_place one_left) in
    let input_inside : c.input_at-input.result < slot_count c.args.graph.now = (table c.requires.ready.closed).closed c.loop-progress.at c.input_at-input.result input_read in
    let input_below : c.input_at-input.result < 512 = omega (arith, input_inside, c.requires.ready.readable.whole.slots) in
    input_below

pub loop-progress-smaller-then-found-eq-FINISHED : goal.loop-progress-smaller-then-found-eq-FINISHED
loop-progress-smaller-then-found-eq-FINISHED c = let known : Present (inputs_of (graph_of c.args.graph.now)) (slot_count c.args.graph.now) c.loop-progress.at (get_or c.loop-progress.progress c.loop-progress.at 0) = present c.loop-progress.invariant.0 in
    let below : c.loop-progress.at < 512 = omega (arith, known.inside, c.requires.ready.readable.whole.slots) in
    let held : c.loop-progress.at < length c.loop-progress.progress = omega (arith, below, c.loop-progress.invariant.1.progress) in
    room_set c.loop-progress.progress c.loop-progress.at ((get_or c.loop-progress.progress c.loop-progress.at 0) + 1) held (omega arith) known.under

pub loop-progress-preserved-then-found-eq-FINISHED : goal.loop-progress-preserved-then-found-eq-FINISHED
loop-progress-preserved-then-found-eq-FINISHED c = let known : Present (inputs_of (graph_of c.args.graph.now)) (slot_count c.args.graph.now) c.loop-progress.at (get_or c.loop-progress.progress c.loop-progress.at 0) = present c.loop-progress.invariant.0 in
    let below : c.loop-progress.at < 512 = omega (arith, known.inside, c.requires.ready.readable.whole.slots) in
    let held : c.loop-progress.at < length c.loop-progress.progress = omega (arith, below, c.loop-progress.invariant.1.progress) in
    let one_left : (get_or c.loop-progress.progress c.loop-progress.at 0) - 1 < length ((inputs_of (graph_of c.args.graph.now)) c.loop-progress.at) = omega (arith, c.if-passed-input_count.false, c.input_count.ensures.0, known.most) in (
      pass c.loop-progress.invariant.0 held (omega (arith, one_left, known.some))
          (c.requires.ready.readable.inputs c.loop-progress.at known.inside)
          (rw c.input_at-input.ensures.0 at (finished_grounded c.loop-progress.invariant.0 c.input_at-input.result c.if-found-eq-FINISHED.true)),
      sized_progress c.loop-progress.at ((get_or c.loop-progress.progress c.loop-progress.at 0) + 1) c.loop-progress.invariant.1,
    )

pub bounds-progress-input-then-found-eq0 : goal.bounds-progress-input-then-found-eq0
bounds-progress-input-then-found-eq0 c = let known : Present (inputs_of (graph_of c.args.graph.now)) (slot_count c.args.graph.now) c.loop-progress.at (get_or c.loop-progress.progress c.loop-progress.at 0) = present c.loop-progress.invariant.0 in
    let one_left : (get_or c.loop-progress.progress c.loop-progress.at 0) - 1 < length ((inputs_of (graph_of c.args.graph.now)) c.loop-progress.at) = omega (arith, c.if-passed-input_count.false, c.input_count.ensures.0, known.most) in
    let input_read : Reads (inputs_of (graph_of c.args.graph.now)) c.loop-progress.at c.input_at-input.result = rw c.input_at-input.ensures.0 (mem-at ((inputs_of (graph_of c.args.graph.now)) c.loop-progress.at) ((get_or c.loop-progress.progress c.loop-progress.at 0) - 1) unused_place one_left) in
    let input_inside : c.input_at-input.result < slot_count c.args.graph.now = (table c.requires.ready.closed).closed c.loop-progress.at c.input_at-input.result input_read in
    let input_below : c.input_at-input.result < 512 = omega (arith, input_inside, c.requires.ready.readable.whole.slots) in
    input_below

pub overflow_cast-parent : goal.overflow_cast-parent
overflow_cast-parent c = let known : Present (inputs_of (graph_of c.args.graph.now)) (slot_count c.args.graph.now) c.loop-progress.at (get_or c.loop-progress.progress c.loop-progress.at 0) = present c.loop-progress.invariant.0 in
    let below : c.loop-progress.at < 512 = omega (arith, known.inside, c.requires.ready.readable.whole.slots) in
    omega (arith, below)

pub bounds-parent-input : goal.bounds-parent-input
bounds-parent-input c = let known : Present (inputs_of (graph_of c.args.graph.now)) (slot_count c.args.graph.now) c.loop-progress.at (get_or c.loop-progress.progress c.loop-progress.at 0) = present c.loop-progress.invariant.0 in
    let one_left : (get_or c.loop-progress.progress c.loop-progress.at 0) - 1 < length ((inputs_of (graph_of c.args.graph.now)) c.loop-progress.at) = omega (arith, c.if-passed-input_count.false, c.input_count.ensures.0, known.most) in
    let input_read : Reads (inputs_of (graph_of c.args.graph.now)) c.loop-progress.at c.input_at-input.result = rw c.input_at-input.ensures.0 (mem-at ((inputs_of (graph_of c.args.graph.now)) c.loop-progress.at) ((get_or c.loop-progress.progress c.loop-progress.at 0) - 1) unused_place one_left) in
    let input_inside : c.input_at-input.result < slot_count c.args.graph.now = (table c.requires.ready.closed).closed c.loop-progress.at c.input_at-input.result input_read in
    let input_below : c.input_at-input.result < 512 = omega (arith, input_inside, c.requires.ready.readable.whole.slots) in
    input_below

pub loop-progress-smaller : goal.loop-progress-smaller
loop-progress-smaller c = let known : Present (inputs_of (graph_of c.args.graph.now)) (slot_count c.args.graph.now) c.loop-progress.at (get_or c.loop-progress.progress c.loop-progress.at 0) = present c.loop-progress.invariant.0 in
    let one_left : (get_or c.loop-progress.progress c.loop-progress.at 0) - 1 < length ((inputs_of (graph_of c.args.graph.now)) c.loop-progress.at) = omega (arith, c.if-passed-input_count.false, c.input_count.ensures.0, known.most) in
    let input_read : Reads (inputs_of (graph_of c.args.graph.now)) c.loop-progress.at c.input_at-input.result = rw c.input_at-input.ensures.0 (mem-at ((inputs_of (graph_of c.args.graph.now)) c.loop-progress.at) ((get_or c.loop-progress.progress c.loop-progress.at 0) - 1) unused_place one_left) in
    let input_inside : c.input_at-input.result < slot_count c.args.graph.now = (table c.requires.ready.closed).closed c.loop-progress.at c.input_at-input.result input_read in
    let input_below : c.input_at-input.result < 512 = omega (arith, input_inside, c.requires.ready.readable.whole.slots) in
    let input_held : c.input_at-input.result < length c.loop-progress.progress = omega (arith, input_below, c.loop-progress.invariant.1.progress) in
    room_set c.loop-progress.progress c.input_at-input.result 1 input_held (omega (arith, c.if-found-eq0.true)) (omega (arith, c.if-found-eq0.true))

pub loop-progress-preserved : goal.loop-progress-preserved
loop-progress-preserved c = let known : Present (inputs_of (graph_of c.args.graph.now)) (slot_count c.args.graph.now) c.loop-progress.at (get_or c.loop-progress.progress c.loop-progress.at 0) = present c.loop-progress.invariant.0 in
    let one_left : (get_or c.loop-progress.progress c.loop-progress.at 0) - 1 < length ((inputs_of (graph_of c.args.graph.now)) c.loop-progress.at) = omega (arith, c.if-passed-input_count.false, c.input_count.ensures.0, known.most) in
    let input_read : Reads (inputs_of (graph_of c.args.graph.now)) c.loop-progress.at c.input_at-input.result = rw c.input_at-input.ensures.0 (mem-at ((inputs_of (graph_of c.args.graph.now)) c.loop-progress.at) ((get_or c.loop-progress.progress c.loop-progress.at 0) - 1) unused_place one_left) in
    let input_inside : c.input_at-input.result < slot_count c.args.graph.now = (table c.requires.ready.closed).closed c.loop-progress.at c.input_at-input.result input_read in
    let input_below : c.input_at-input.result < 512 = omega (arith, input_inside, c.requires.ready.readable.whole.slots) in
    let input_held : c.input_at-input.result < length c.loop-progress.progress = omega (arith, input_below, c.loop-progress.invariant.1.progress) in (
      enter c.loop-progress.invariant.0 c.input_at-input.result input_read c.if-found-eq0.true input_inside input_held
          (omega (arith, input_below, c.loop-progress.invariant.1.parent)),
      sized_parent c.input_at-input.result c.loop-progress.at (sized_progress c.input_at-input.result 1 c.loop-progress.invariant.1),
    )

pub returns-then-at-root-clause-searched : goal.returns-then-at-root-clause-searched
returns-then-at-root-clause-searched c = let root-held : c.args.root < length c.args.progress.now = omega (arith, c.requires.ready.readable.whole.slots, c.requires.ready.sized.progress) in
    let known : Present (inputs_of (graph_of c.args.graph.now)) (slot_count c.args.graph.now) c.loop-progress.at (get_or c.loop-progress.progress c.loop-progress.at 0) = present c.loop-progress.invariant.0 in
    let below : c.loop-progress.at < 512 = omega (arith, known.inside, c.requires.ready.readable.whole.slots) in
    let held : c.loop-progress.at < length c.loop-progress.progress = omega (arith, below, c.loop-progress.invariant.1.progress) in
    let none_left : (get_or c.loop-progress.progress c.loop-progress.at 0) ≡ 1 + length ((inputs_of (graph_of c.args.graph.now)) c.loop-progress.at) = omega (arith, c.if-passed-input_count.true, c.input_count.ensures.0, known.some) in
    since c.args.progress.now root-held c.if-progress-root-eq-FINISHED.false
    (end c.loop-progress.invariant.0 held none_left c.if-at-root.true)

pub input_at-input-requires-clause-i_in_bounds : goal.input_at-input-requires-clause-i_in_bounds
input_at-input-requires-clause-i_in_bounds c = let known : Present (inputs_of (graph_of c.args.graph.now)) (slot_count c.args.graph.now) c.loop-progress.at (get_or c.loop-progress.progress c.loop-progress.at 0) = present c.loop-progress.invariant.0 in
    let one_left : (get_or c.loop-progress.progress c.loop-progress.at 0) - 1 < length ((inputs_of (graph_of c.args.graph.now)) c.loop-progress.at) = omega (arith, c.if-passed-input_count.false, c.input_count.ensures.0, known.most) in
    one_left

pub returns-else-found-eq0-clause-searched : goal.returns-else-found-eq0-clause-searched
returns-else-found-eq0-clause-searched c = let known : Present (inputs_of (graph_of c.args.graph.now)) (slot_count c.args.graph.now) c.loop-progress.at (get_or c.loop-progress.progress c.loop-progress.at 0) = present c.loop-progress.invariant.0 in
    let one_left : (get_or c.loop-progress.progress c.loop-progress.at 0) - 1 < length ((inputs_of (graph_of c.args.graph.now)) c.loop-progress.at) = omega (arith, c.if-passed-input_count.false, c.input_count.ensures.0, known.most) in
    let input_read : Reads (inputs_of (graph_of c.args.graph.now)) c.loop-progress.at c.input_at-input.result = rw c.input_at-input.ensures.0 (mem-at ((inputs_of (graph_of c.args.graph.now)) c.loop-progress.at) ((get_or c.loop-progress.progress c.loop-progress.at 0) - 1) unused_place one_left) in
    found c.args.root c.args.progress.now c.loop-progress.progress
    (closes c.loop-progress.invariant.0 c.input_at-input.result input_read c.if-found-eq0.false c.if-found-eq-FINISHED.false)
