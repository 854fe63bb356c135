use mathlib.Core.Path.{◌≡◌, ◌∙◌}
use mathlib.Core.Bool.{Bool, true, false}
use mathlib.Core.List.{List}
use Prim.Native.Nat.{ℕ, ◌+◌, ◌-◌, ◌*◌, ◌<◌, ◌≤◌}
use native.Mathlib.Omega.{arith}
use lib.ListN.{length, get_or, set, length-set, replicate, length-replicate}
use lib.Seq.{get_or-set_other}
use Rattle.definitions.specs.Graph.{unused_place, slot_count, graph_of, inputs_of}
use Rattle.definitions.specs.Paths.{Reads, is_marked}
use Rattle.laws.proofs.Members.{mem-at}
use Rattle.laws.proofs.Tallies.{tally-most}
use Rattle.graph_fields.specs.Layout.{Closed}
use Rattle.reachability.proofs.Worklist.{Work, work_start, work_room, work_push, work_next, work_end, spread_same, spread_since, Passed, passed_none, passed_more, passed_all, passed_kept}
use Rattle.graph_reach.proofs.mark_from.Goals as goal

-- ---- the queue's places, while slot `get_or queue head 0` has its turn
module _ (graph : List ℕ) {root head tail : ℕ} {before marks : List Bool} {queue : List ℕ}
    (work : Work (inputs_of (graph_of graph)) (slot_count graph) root before marks queue head tail) (slots : slot_count graph ≤ 512) where
  tail_most : tail ≤ 512
  tail_most = omega (arith, work.most, tally-most (is_marked marks) (slot_count graph), slots)

  -- the input that is looked at
  module _ {passed count input : ℕ} (closed : Closed graph) (size : length marks ≡ 512) (turn : head < tail)
      (few : passed ≤ length (inputs_of (graph_of graph) (get_or queue head 0))) (all : count ≡ length (inputs_of (graph_of graph) (get_or queue head 0)))
      (more : passed ≡ count → ⊥) (read : input ≡ get_or (inputs_of (graph_of graph) (get_or queue head 0)) passed unused_place) where
    one_left : passed < length (inputs_of (graph_of graph) (get_or queue head 0))
    one_left = omega (arith, few, all, more)

    inside : input < slot_count graph
    inside = rw read (closed.named (get_or queue head 0) passed (work.listed head turn).1 one_left)

    held : input < length marks
    held = omega (arith, inside, slots, size)

    is_read : Reads (inputs_of (graph_of graph)) (get_or queue head 0) input
    is_read = rw read (mem-at (inputs_of (graph_of graph) (get_or queue head 0)) passed unused_place one_left)

    room : is_marked marks input ≡ false → tail < 512
    room new = omega (arith, work_room work input inside held new, slots)

pub loop-head-init : goal.loop-head-init
loop-head-init c = let marks = c.args.marks.now in
    let held : c.args.root < length marks = omega (arith, c.requires.readable_graph.whole.slots, c.requires.marks_len) in (
      work_start marks held (replicate 512 0) c.requires.closed_marks c.if-marks-root.false c.requires.root_bound
          (omega (arith, length-replicate {A = ℕ} 512 0)),
      length-set marks c.args.root true ∙ c.requires.marks_len,
      length-set (replicate 512 0) 0 c.args.root ∙ length-replicate {A = ℕ} 512 0,
      passed_none,
    )

pub offset_bounds-queue-head : goal.offset_bounds-queue-head
offset_bounds-queue-head c = omega (arith, tail_most c.args.graph.now c.loop-head.invariant.0 c.requires.readable_graph.whole.slots)

pub bounds-queue-head : goal.bounds-queue-head
bounds-queue-head c = omega (arith, tail_most c.args.graph.now c.loop-head.invariant.0 c.requires.readable_graph.whole.slots)

pub loop-head-smaller-then-passed-input_count : goal.loop-head-smaller-then-passed-input_count
loop-head-smaller-then-passed-input_count c = omega (arith, tail_most c.args.graph.now c.loop-head.invariant.0 c.requires.readable_graph.whole.slots, c.if-passed-input_count.true, c.input_count.ensures.1)

pub loop-head-preserved-then-passed-input_count : goal.loop-head-preserved-then-passed-input_count
loop-head-preserved-then-passed-input_count c = (
  work_next c.loop-head.invariant.0 c.loop-head-test.true
      (passed_all c.loop-head.invariant.3 (c.if-passed-input_count.true ∙ c.input_count.ensures.0)),
  c.loop-head.invariant.1,
  c.loop-head.invariant.2,
  passed_none,
)

pub offset_bounds-queue-tail : goal.offset_bounds-queue-tail
offset_bounds-queue-tail c = omega (
  arith,
  room c.args.graph.now c.loop-head.invariant.0 c.requires.readable_graph.whole.slots c.requires.closed c.loop-head.invariant.1 c.loop-head-test.true c.loop-head.invariant.3.few
      c.input_count.ensures.0 c.if-passed-input_count.false c.input_at-input.ensures.0 c.if-marks-input.false,
)

pub bounds-queue-tail : goal.bounds-queue-tail
bounds-queue-tail c = omega (
  arith,
  room c.args.graph.now c.loop-head.invariant.0 c.requires.readable_graph.whole.slots c.requires.closed c.loop-head.invariant.1 c.loop-head-test.true c.loop-head.invariant.3.few
      c.input_count.ensures.0 c.if-passed-input_count.false c.input_at-input.ensures.0 c.if-marks-input.false,
)

pub overflow_add-tail : goal.overflow_add-tail
overflow_add-tail c = omega (
  arith,
  room c.args.graph.now c.loop-head.invariant.0 c.requires.readable_graph.whole.slots c.requires.closed c.loop-head.invariant.1 c.loop-head-test.true c.loop-head.invariant.3.few
      c.input_count.ensures.0 c.if-passed-input_count.false c.input_at-input.ensures.0 c.if-marks-input.false,
)

pub loop-head-smaller : goal.loop-head-smaller
loop-head-smaller c = omega (
  arith,
  room c.args.graph.now c.loop-head.invariant.0 c.requires.readable_graph.whole.slots c.requires.closed c.loop-head.invariant.1 c.loop-head-test.true c.loop-head.invariant.3.few
      c.input_count.ensures.0 c.if-passed-input_count.false c.input_at-input.ensures.0 c.if-marks-input.false,
)

pub loop-head-preserved : goal.loop-head-preserved
loop-head-preserved c =
    let l = c.loop-head in
    let v = c.input_at-input.result in
    let input_held : v < length l.marks = held c.args.graph.now c.loop-head.invariant.0 c.requires.readable_graph.whole.slots c.requires.closed c.loop-head.invariant.1 c.loop-head-test.true c.loop-head.invariant.3.few
    c.input_count.ensures.0 c.if-passed-input_count.false c.input_at-input.ensures.0 in
    let space : l.tail < length l.queue = omega (
      arith,
      l.invariant.2,
      room c.args.graph.now c.loop-head.invariant.0 c.requires.readable_graph.whole.slots c.requires.closed c.loop-head.invariant.1 c.loop-head-test.true c.loop-head.invariant.3.few
          c.input_count.ensures.0 c.if-passed-input_count.false c.input_at-input.ensures.0 c.if-marks-input.false,
    ) in
    let same : get_or (set l.queue l.tail v) l.head 0 ≡ get_or l.queue l.head 0 =
    get_or-set_other l.queue l.tail l.head v 0 (λ q. omega arith) in (
      work_push l.invariant.0 l.head v c.loop-head-test.true (is_read c.args.graph.now c.loop-head.invariant.0 c.requires.readable_graph.whole.slots c.requires.closed c.loop-head.invariant.1 c.loop-head-test.true c.loop-head.invariant.3.few
          c.input_count.ensures.0 c.if-passed-input_count.false c.input_at-input.ensures.0) (inside c.args.graph.now c.loop-head.invariant.0 c.requires.readable_graph.whole.slots c.requires.closed c.loop-head.invariant.1 c.loop-head-test.true c.loop-head.invariant.3.few
          c.input_count.ensures.0 c.if-passed-input_count.false c.input_at-input.ensures.0) input_held space c.if-marks-input.false,
      length-set l.marks v true ∙ l.invariant.1,
      length-set l.queue l.tail v ∙ l.invariant.2,
      rw same (passed_kept l.invariant.3 v input_held),
    )

pub returns-clause-spread : goal.returns-clause-spread
returns-clause-spread c = let held : c.args.root < length c.args.marks.now = omega (arith, c.requires.readable_graph.whole.slots, c.requires.marks_len) in spread_since c.args.marks.now held (work_end c.loop-head.invariant.0 c.loop-head-test.false)
