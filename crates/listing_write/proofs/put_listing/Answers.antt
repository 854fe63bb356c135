-- The first line, the lines of the slots, and the last line.
use mathlib.Core.Path.{sym, ap}
use mathlib.Core.List.{◌++◌}
use Prim.Native.Nat.{◌+◌, ◌≤◌}
use native.Mathlib.Omega.{arith}
use lib.ListN.{length}
use Rattle.definitions.specs.Graph.{slot_count, graph_of}
use Rattle.listing_print.specs.Laid.{text_limit, Laid}
use Rattle.listing_print.proofs.Laying.{laid_then, laid_as, room-first, room_next}
use Rattle.listing_write.specs.Parts.{head_text, slots_text, outputs_text}
use Rattle.listing_write.proofs.Parts.{listing_parts}
use Rattle.listing_write.proofs.put_listing.Goals as goal

pub returns : goal.returns
returns c = let headed : Laid 0 (head_text (slot_count c.args.graph.now)) c.args.text.now c.put_head-lines.new.text c.put_head-lines.result = laid_as (ap head_text c.slot_count.ensures.0) c.put_head-lines.ensures in
    laid_as (sym (listing_parts c.args.graph.now)) (laid_then (laid_then headed c.put_slots-outputs.ensures) c.put_outputs.ensures)

pub put_head-lines-requires-clause-slots_len_bound : goal.put_head-lines-requires-clause-slots_len_bound
put_head-lines-requires-clause-slots_len_bound c = let whole : 0 + length ((head_text (slot_count c.args.graph.now)) ++ (slots_text (graph_of c.args.graph.now) (slot_count c.args.graph.now)) ++ outputs_text (graph_of c.args.graph.now)) ≤ text_limit = omega (arith, c.requires.graph_len_bound, ap length (listing_parts c.args.graph.now)) in
    let front : 0 + length ((head_text (slot_count c.args.graph.now)) ++ (slots_text (graph_of c.args.graph.now) (slot_count c.args.graph.now))) ≤ text_limit = room-first ((head_text (slot_count c.args.graph.now)) ++ (slots_text (graph_of c.args.graph.now) (slot_count c.args.graph.now))) (outputs_text (graph_of c.args.graph.now)) 0 whole in
    let room = room-first (head_text (slot_count c.args.graph.now)) (slots_text (graph_of c.args.graph.now) (slot_count c.args.graph.now)) 0 front in omega (arith, ap (λ n. length (head_text n)) c.slot_count.ensures.0)

pub put_slots-outputs-requires-clause-graph_bound : goal.put_slots-outputs-requires-clause-graph_bound
put_slots-outputs-requires-clause-graph_bound c = let whole : 0 + length ((head_text (slot_count c.args.graph.now)) ++ (slots_text (graph_of c.args.graph.now) (slot_count c.args.graph.now)) ++ outputs_text (graph_of c.args.graph.now)) ≤ text_limit = omega (arith, c.requires.graph_len_bound, ap length (listing_parts c.args.graph.now)) in
    let front : 0 + length ((head_text (slot_count c.args.graph.now)) ++ (slots_text (graph_of c.args.graph.now) (slot_count c.args.graph.now))) ≤ text_limit = room-first ((head_text (slot_count c.args.graph.now)) ++ (slots_text (graph_of c.args.graph.now) (slot_count c.args.graph.now))) (outputs_text (graph_of c.args.graph.now)) 0 whole in
    let headed : Laid 0 (head_text (slot_count c.args.graph.now)) c.args.text.now c.put_head-lines.new.text c.put_head-lines.result = laid_as (ap head_text c.slot_count.ensures.0) c.put_head-lines.ensures in
    room_next (head_text (slot_count c.args.graph.now)) (slots_text (graph_of c.args.graph.now) (slot_count c.args.graph.now)) 0 front headed

pub put_outputs-requires-clause-graph_bound : goal.put_outputs-requires-clause-graph_bound
put_outputs-requires-clause-graph_bound c = let whole : 0 + length ((head_text (slot_count c.args.graph.now)) ++ (slots_text (graph_of c.args.graph.now) (slot_count c.args.graph.now)) ++ outputs_text (graph_of c.args.graph.now)) ≤ text_limit = omega (arith, c.requires.graph_len_bound, ap length (listing_parts c.args.graph.now)) in
    let headed : Laid 0 (head_text (slot_count c.args.graph.now)) c.args.text.now c.put_head-lines.new.text c.put_head-lines.result = laid_as (ap head_text c.slot_count.ensures.0) c.put_head-lines.ensures in
    room_next ((head_text (slot_count c.args.graph.now)) ++ (slots_text (graph_of c.args.graph.now) (slot_count c.args.graph.now))) (outputs_text (graph_of c.args.graph.now)) 0 whole
    (laid_then headed c.put_slots-outputs.ensures)
