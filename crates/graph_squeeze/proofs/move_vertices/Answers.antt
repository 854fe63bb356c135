use mathlib.Core.Path.{◌≡◌, sym, ap, ap₂, ◌∙◌}
use mathlib.Core.List.{map}
use Prim.Native.Nat.{◌+◌, ◌<◌, ◌≤◌}
use native.Mathlib.Omega.{arith}
use lib.ListN.{length, take, length-map}
use Rattle.definitions.specs.Graph.{header_bytes, slot_limit, unused_place, graph_version, slot_count, record_at, graph_of, block_as}
use Rattle.definitions.specs.Squeeze.{squeeze}
use Rattle.laws.proofs.Lists.{get_or_any}
use Rattle.laws.proofs.Parts.{put_part}
use Rattle.laws.proofs.Graph.{length-outputs}
use Rattle.new_header.specs.Headers.{header_with}
use Rattle.new_header.proofs.Laws.{header_bytes_lem}
use Rattle.graph_fields.specs.Layout.{WholeGraph}
use Rattle.graph_check.proofs.Readable.{graph_readable, graph-outputs}
use Rattle.graph_slots.proofs.Laws.{halfway_all}
use Rattle.graph_moves.specs.Moving.{name_in}
use Rattle.graph_squeeze.proofs.Laws.{middle-length, headed, squeezed_start, new-header, move_ready, step-vertex, step_empty}
use Rattle.graph_squeeze.proofs.move_vertices.Goals as goal

pub slot_count-slots-requires : goal.slot_count-slots-requires
slot_count-slots-requires c = omega (arith, (graph_readable c.args.graph.now c.requires.sound_graph).whole.size)

pub output_count-outputs-requires : goal.output_count-outputs-requires
output_count-outputs-requires c = omega (arith, (graph_readable c.args.graph.now c.requires.sound_graph).whole.size)

pub loop-k-init : goal.loop-k-init
loop-k-init c = squeezed_start c.args.graph.now c.requires.sound_graph (λ at. omega (arith, c.slice_known-1.given at))

pub bounds-from-k : goal.bounds-from-k
bounds-from-k c = let inside : c.loop-k.k < slot_count c.args.graph.now = omega (arith, c.loop-k-test.true, c.slot_count-slots.ensures.0) in
    let whole : WholeGraph c.args.graph.now = (graph_readable c.args.graph.now c.requires.sound_graph).whole in
    let low : c.loop-k.k < slot_limit = omega (arith, inside, whole.slots) in
    low

pub clear_slot-requires : goal.clear_slot-requires
clear_slot-requires c = let inside : c.loop-k.k < slot_count c.args.graph.now = omega (arith, c.loop-k-test.true, c.slot_count-slots.ensures.0) in
    let graph-length : length c.loop-k.graph ≡ record_at (slot_count c.args.graph.now) = c.loop-k.invariant.size ∙ middle-length c.args.graph.now c.requires.sound_graph (λ at. omega (arith, c.slice_known-1.given at)) in
    let fits : record_at (c.loop-k.k + 1) ≤ length c.loop-k.graph = omega (arith, inside, graph-length) in
    fits

pub loop-k-preserved : goal.loop-k-preserved
loop-k-preserved c = let inside : c.loop-k.k < slot_count c.args.graph.now = omega (arith, c.loop-k-test.true, c.slot_count-slots.ensures.0) in
    let whole : WholeGraph c.args.graph.now = (graph_readable c.args.graph.now c.requires.sound_graph).whole in
    let low : c.loop-k.k < slot_limit = omega (arith, inside, whole.slots) in
    elim c.if-k-count.branch [
      | goal.then-k-count w ↦ let named : w.from.result ≡ name_in c.args.from.now c.loop-k.k =
          w.from.ensures ∙ get_or_any c.args.from.now c.loop-k.k 0 unused_place (omega (arith, low, c.requires.moving.from_size)) in
          rw w.graph-is (step-vertex c.args.graph.now c.requires.sound_graph (λ at. omega (arith, c.slice_known-1.given at)) c.args.count c.args.from.now c.args.to.now c.requires.moving c.loop-k.k inside c.loop-k.invariant w.if-k-count.true
          (rw named at w.move_slot.ensures))
      | goal.else-k-count w ↦ rw w.graph-is (step_empty c.args.graph.now c.requires.sound_graph (λ at. omega (arith, c.slice_known-1.given at)) c.args.count c.args.from.now c.args.to.now c.requires.moving c.loop-k.k inside c.loop-k.invariant w.if-k-count.false
          w.clear_slot.ensures)
    ]

pub slice_bounds-write_header-end : goal.slice_bounds-write_header-end
slice_bounds-write_header-end c = let graph-length : length c.loop-k.graph ≡ record_at (slot_count c.args.graph.now) = c.loop-k.invariant.size ∙ middle-length c.args.graph.now c.requires.sound_graph (λ at. omega (arith, c.slice_known-1.given at)) in
    omega (arith, graph-length)

pub returns : goal.returns
returns c = let after = map (name_in c.args.to.now) (graph_of c.args.graph.now).outputs in
    let number : c.output_count-outputs.result ≡ length after =
    c.output_count-outputs.ensures.0 ∙ sym (length-outputs c.args.graph.now) ∙ sym (length-map (graph_of c.args.graph.now).outputs (name_in c.args.to.now)) in
    let written : c.write_header.new.part ≡ take header_bytes (block_as graph_version (λ i. 0) (squeeze (graph_of c.args.graph.now))) =
    c.write_header.ensures
    ∙ ap (λ n. header_with n c.output_count-outputs.result c.renamed_outputs-names.result) c.slot_count-slots.ensures.0
    ∙ ap₂ (header_with (slot_count c.args.graph.now)) number c.renamed_outputs-names.ensures
    ∙ header_bytes_lem (slot_count c.args.graph.now) after
    ∙ new-header c.args.graph.now c.requires.sound_graph (λ at. omega (arith, c.slice_known-1.given at)) c.args.count c.args.from.now c.args.to.now c.requires.moving in
    let all = halfway_all c.loop-k.k c.loop-k.invariant
    (omega (arith, middle-length c.args.graph.now c.requires.sound_graph (λ at. omega (arith, c.slice_known-1.given at)), c.loop-k-test.false, c.slot_count-slots.ensures.0)) in
    ap (λ g. put_part 0 header_bytes g c.write_header.new.part) all ∙ headed c.args.graph.now c.requires.sound_graph (λ at. omega (arith, c.slice_known-1.given at)) c.write_header.new.part written

pub renamed_outputs-names-requires-clause-whole_graph : goal.renamed_outputs-names-requires-clause-whole_graph
renamed_outputs-names-requires-clause-whole_graph c = (graph_readable c.args.graph.now c.requires.sound_graph).whole

pub renamed_outputs-names-requires-clause-outputs_named : goal.renamed_outputs-names-requires-clause-outputs_named
renamed_outputs-names-requires-clause-outputs_named c = graph-outputs c.args.graph.now c.requires.sound_graph

pub move_slot-requires-clause-held_slot : goal.move_slot-requires-clause-held_slot
move_slot-requires-clause-held_slot c = let inside : c.loop-k.k < slot_count c.args.graph.now = omega (arith, c.loop-k-test.true, c.slot_count-slots.ensures.0) in
    let whole : WholeGraph c.args.graph.now = (graph_readable c.args.graph.now c.requires.sound_graph).whole in
    let low : c.loop-k.k < slot_limit = omega (arith, inside, whole.slots) in
    let looked_up : c.from.result ≡ name_in c.args.from.now c.loop-k.k = c.from.ensures ∙ get_or_any c.args.from.now c.loop-k.k 0 unused_place (omega (arith, low, c.requires.moving.from_size)) in
    let graph-length : length c.loop-k.graph ≡ record_at (slot_count c.args.graph.now) = c.loop-k.invariant.size ∙ middle-length c.args.graph.now c.requires.sound_graph (λ at. omega (arith, c.slice_known-1.given at)) in
    let ready = move_ready c.args.graph.now c.requires.sound_graph (λ at. omega (arith, c.slice_known-1.given at)) c.args.count c.args.from.now c.args.to.now c.requires.moving c.loop-k.k inside c.loop-k.invariant
    c.if-k-count.true in rw looked_up ready.0

pub move_slot-requires-clause-k_le_v : goal.move_slot-requires-clause-k_le_v
move_slot-requires-clause-k_le_v c = let inside : c.loop-k.k < slot_count c.args.graph.now = omega (arith, c.loop-k-test.true, c.slot_count-slots.ensures.0) in
    let whole : WholeGraph c.args.graph.now = (graph_readable c.args.graph.now c.requires.sound_graph).whole in
    let low : c.loop-k.k < slot_limit = omega (arith, inside, whole.slots) in
    let looked_up : c.from.result ≡ name_in c.args.from.now c.loop-k.k = c.from.ensures ∙ get_or_any c.args.from.now c.loop-k.k 0 unused_place (omega (arith, low, c.requires.moving.from_size)) in
    let graph-length : length c.loop-k.graph ≡ record_at (slot_count c.args.graph.now) = c.loop-k.invariant.size ∙ middle-length c.args.graph.now c.requires.sound_graph (λ at. omega (arith, c.slice_known-1.given at)) in
    let ready = move_ready c.args.graph.now c.requires.sound_graph (λ at. omega (arith, c.slice_known-1.given at)) c.args.count c.args.from.now c.args.to.now c.requires.moving c.loop-k.k inside c.loop-k.invariant
    c.if-k-count.true in rw looked_up ready.1

pub move_slot-requires-clause-v_in_bounds : goal.move_slot-requires-clause-v_in_bounds
move_slot-requires-clause-v_in_bounds c = let inside : c.loop-k.k < slot_count c.args.graph.now = omega (arith, c.loop-k-test.true, c.slot_count-slots.ensures.0) in
    let whole : WholeGraph c.args.graph.now = (graph_readable c.args.graph.now c.requires.sound_graph).whole in
    let low : c.loop-k.k < slot_limit = omega (arith, inside, whole.slots) in
    let looked_up : c.from.result ≡ name_in c.args.from.now c.loop-k.k = c.from.ensures ∙ get_or_any c.args.from.now c.loop-k.k 0 unused_place (omega (arith, low, c.requires.moving.from_size)) in
    let graph-length : length c.loop-k.graph ≡ record_at (slot_count c.args.graph.now) = c.loop-k.invariant.size ∙ middle-length c.args.graph.now c.requires.sound_graph (λ at. omega (arith, c.slice_known-1.given at)) in
    let ready = move_ready c.args.graph.now c.requires.sound_graph (λ at. omega (arith, c.slice_known-1.given at)) c.args.count c.args.from.now c.args.to.now c.requires.moving c.loop-k.k inside c.loop-k.invariant
    c.if-k-count.true in rw looked_up (omega (arith, ready.2, graph-length))
