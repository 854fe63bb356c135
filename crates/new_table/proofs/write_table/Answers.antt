-- The header is written into the first 24 bytes, and every slot behind it.
use mathlib.Core.Path.{◌≡◌, refl, sym, ap, ap₂, ◌∙◌}
use mathlib.Core.List.{List, [], ◌++◌, map}
use Prim.Native.Nat.{ℕ}
use native.Mathlib.Omega.{arith}
use lib.ListN.{length, length-map}
use Rattle.definitions.specs.Lists.{padded}
use Rattle.definitions.specs.Graph.{header_bytes, output_limit, unused_place, graph_version, slot_count, output_count, graph_of, records_block, header_block, block_as}
use Rattle.definitions.specs.Rewriting.{redirect, new_slot, new_graph}
use Rattle.rule_fields.specs.Fixed.{fixed_of}
use Rattle.laws.proofs.Lists.{length-tabulate, map_same}
use Rattle.laws.proofs.Parts.{part_more}
use Rattle.laws.proofs.Graph.{length-slots, length-outputs}
use Rattle.new_header.specs.Headers.{header_with}
use Rattle.new_header.proofs.Laws.{header_bytes_lem}
use Rattle.redirection.specs.declared.Redirection.{Redirection}
use Rattle.redirection.specs.Moves.{moved}
use Rattle.redirection.proofs.Laws.{redirect_same}
use Rattle.new_vertices.specs.Slots.{values_of, fit_results}
use Rattle.new_records.specs.Slots.{Redirects}
use Rattle.new_table.specs.Table.{new_table}
use borrow.Author.Rules.{rules}
use Rattle.new_table.proofs.write_table.Goals as goal

-- the header of the new table, from the counts of the old one and the outputs as they are moved
new-header : (graph rule images : List ℕ) (way : Redirection) → Redirects graph rule images way
    → header_with (slot_count graph) (output_count graph) (padded output_limit unused_place (map (moved way) (graph_of graph).outputs))
    ≡ header_block graph_version (length (new_table graph rule images).slots) (new_table graph rule images).outputs
unfolding new_table new_graph
new-header graph rule images way ways =
    let outputs = (graph_of graph).outputs in
    let after = map (redirect (graph_of graph) (fixed_of rule) images) outputs in
    let same : map (moved way) outputs ≡ after = map_same (moved way) (redirect (graph_of graph) (fixed_of rule) images) outputs (λ v m. ways v) in
    let count : output_count graph ≡ length after =
    sym (length-outputs graph) ∙ sym (length-map outputs (redirect (graph_of graph) (fixed_of rule) images)) in
    let slots : slot_count graph ≡ length (new_table graph rule images).slots =
    sym (length-slots graph)
    ∙ sym (length-tabulate (length (graph_of graph).slots)
    (new_slot (graph_of graph) (fixed_of rule) images (values_of (fit_results graph rule images)))) in
    ap (λ n. header_with n (output_count graph) (padded output_limit unused_place (map (moved way) outputs))) slots
    ∙ ap₂ (λ n l. header_with (length (new_table graph rule images).slots) n (padded output_limit unused_place l)) count same
    ∙ header_bytes_lem (length (new_table graph rule images).slots) after

pub returns : goal.returns
unfolding block_as
returns c = let written : c.write_header.new.part ≡ header_block graph_version (length (new_table c.args.graph.now c.args.rule.now c.args.images.now).slots) (new_table c.args.graph.now c.args.rule.now c.args.images.now).outputs =
    c.write_header.ensures
    ∙ ap (λ n. header_with n c.output_count-count.result c.new_outputs-outputs.result) c.slot_count-slots.ensures.0
    ∙ ap₂ (header_with (slot_count c.args.graph.now)) c.output_count-count.ensures.0 c.new_outputs-outputs.ensures
    ∙ new-header c.args.graph.now c.args.rule.now c.args.images.now c.redirection_of-way.result (λ v. c.redirection_of-way.ensures v
    ∙ redirect_same (graph_of c.args.graph.now) c.args.rule.now c.args.images.now c.args.places.now
    c.requires.prepared.moves.resolvable c.requires.prepared.placed v) in
    let front = part_more 0 header_bytes c.args.table.now c.write_header.new.part (omega arith)
    (search rules) [] (omega arith) refl in
    c.write_slots.ensures
    ∙ ap (λ l. l ++ records_block (λ i. 0) (new_table c.args.graph.now c.args.rule.now c.args.images.now) (length (new_table c.args.graph.now c.args.rule.now c.args.images.now).slots)) (front ∙ written)

pub write_slots-requires-clause-redirects : goal.write_slots-requires-clause-redirects
write_slots-requires-clause-redirects c = (λ v. c.redirection_of-way.ensures v
    ∙ redirect_same (graph_of c.args.graph.now) c.args.rule.now c.args.images.now c.args.places.now
    c.requires.prepared.moves.resolvable c.requires.prepared.placed v)
