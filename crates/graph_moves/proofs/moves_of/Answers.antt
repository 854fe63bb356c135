use mathlib.Core.Path.{◌≡◌, sym, ap, ◌∙◌, subst}
use mathlib.Core.Bool.{not}
use mathlib.Core.List.{List}
use Prim.Native.Nat.{ℕ, ◌<◌, ◌≤◌}
use native.Mathlib.Omega.{arith}
use borrow.Author.Tests.{eq-eqb, ne_eqb}
use lib.ListN.{length}
use Rattle.definitions.specs.Graph.{slot_limit, slot_count, graph_of, slot_of, is_vertex}
use Rattle.laws.proofs.Graph.{length-slots}
use Rattle.graph_moves.proofs.Laws.{Begun, begun_none, begun-most, begun-vertex, begun_empty, begun_all}
use Rattle.graph_moves.proofs.moves_of.Goals as goal

pub loop-v-init : goal.loop-v-init
loop-v-init c = begun_none (graph_of c.args.graph.now)

-- the vertices that are counted before slot v are no more than the slots before it
counted_most : (block : List ℕ) (v count : ℕ) (from to : List ℕ) → v < slot_count block → slot_count block ≤ slot_limit → Begun (graph_of block) v count from to → count < slot_limit
counted_most block v count from to inside slots begun = omega (arith, inside, slots, begun-most (graph_of block) v count from to begun)

pub offset_bounds-from-count : goal.offset_bounds-from-count
offset_bounds-from-count c = omega (arith, counted_most c.args.graph.now c.loop-v.v c.loop-v.count c.loop-v.from c.loop-v.to (omega (arith, c.loop-v-test.true, c.slot_count-slots.ensures.0)) c.requires.slots c.loop-v.invariant)

pub bounds-from-count : goal.bounds-from-count
bounds-from-count c = omega (arith, counted_most c.args.graph.now c.loop-v.v c.loop-v.count c.loop-v.from c.loop-v.to (omega (arith, c.loop-v-test.true, c.slot_count-slots.ensures.0)) c.requires.slots c.loop-v.invariant)

pub overflow_cast-to : goal.overflow_cast-to
overflow_cast-to c = omega (arith, counted_most c.args.graph.now c.loop-v.v c.loop-v.count c.loop-v.from c.loop-v.to (omega (arith, c.loop-v-test.true, c.slot_count-slots.ensures.0)) c.requires.slots c.loop-v.invariant)

pub overflow_add-count : goal.overflow_add-count
overflow_add-count c = omega (arith, counted_most c.args.graph.now c.loop-v.v c.loop-v.count c.loop-v.from c.loop-v.to (omega (arith, c.loop-v-test.true, c.slot_count-slots.ensures.0)) c.requires.slots c.loop-v.invariant)

pub loop-v-preserved : goal.loop-v-preserved
unfolding is_vertex
loop-v-preserved c = let inside : c.loop-v.v < slot_count c.args.graph.now = omega (arith, c.loop-v-test.true, c.slot_count-slots.ensures.0) in
    let low : c.loop-v.v < 512 = omega (arith, inside, c.requires.slots) in
    let g = graph_of c.args.graph.now in
    elim c.if-kind_of-ne-KIND_EMPTY.branch [
      | goal.then-kind_of-ne-KIND_EMPTY w ↦ let vertex = ap not (ne_eqb (slot_of g c.loop-v.v).kind 0 (λ e. w.if-kind_of-ne-KIND_EMPTY.true (c.kind_of.ensures.0 ∙ e))) in
          rw (w.from-is, w.to-is, w.count-is) (begun-vertex g c.loop-v.v c.loop-v.count c.loop-v.from c.loop-v.to c.loop-v.invariant low vertex)
      | goal.else-kind_of-ne-KIND_EMPTY w ↦ let empty = ap not (eq-eqb (slot_of g c.loop-v.v).kind 0 (sym c.kind_of.ensures.0 ∙ w.if-kind_of-ne-KIND_EMPTY.false)) in
          rw (w.from-is, w.to-is, w.count-is) (begun_empty g c.loop-v.v c.loop-v.count c.loop-v.from c.loop-v.to c.loop-v.invariant empty)
    ]

pub returns : goal.returns
returns c = let last : length (graph_of c.args.graph.now).slots ≡ c.loop-v.v =
    omega (arith, c.loop-v-test.false, c.slot_count-slots.ensures.0, length-slots c.args.graph.now) in
    rw (length-slots c.args.graph.now) at (begun_all (graph_of c.args.graph.now)
    (subst (λ n. Begun (graph_of c.args.graph.now) n c.loop-v.count c.loop-v.from c.loop-v.to) (sym last) c.loop-v.invariant))
