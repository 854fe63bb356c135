-- The record that is written for slot k goes on behind the slots that are written already.
use mathlib.Core.Path.{sym, ap, ap₂, ◌∙◌}
use mathlib.Core.List.{List, ◌++◌}
use Prim.Native.Nat.{ℕ, ◌<◌}
use native.Mathlib.Omega.{arith}
use lib.ListN.{length, take, replicate}
use Rattle.definitions.specs.Graph.{tail_bytes, record_at, graph_of, slot_block}
use Rattle.definitions.specs.Rewriting.{new_slot}
use Rattle.rule_fields.specs.Fixed.{fixed_of}
use Rattle.laws.proofs.Rewriting.{new-slot-at}
use Rattle.laws.proofs.Graph.{length-slots}
use Rattle.encoding.proofs.Tails.{zero_tail}
use Rattle.graph_records.proofs.Laws.{stands_bytes}
use Rattle.new_vertices.specs.Slots.{values_of, fit_results}
use Rattle.new_table.specs.Table.{new_table}
use Rattle.new_table.proofs.write_slot.Goals as goal

pub returns : goal.returns
unfolding new_table
returns c = let g = graph_of c.args.graph.now in
    let r = fixed_of c.args.rule.now in
    let values = values_of (fit_results c.args.graph.now c.args.rule.now c.args.images.now) in
    let old : c.args.k < length g.slots = omega (arith, length-slots c.args.graph.now, c.requires.k_bound) in
    let tail : List ℕ = replicate tail_bytes 0 in
    c.write_slot.ensures.front
    ∙ ap (λ b. take (record_at c.args.k) c.args.table.now ++ b) (stands_bytes tail c.new_record-record.result (new_slot g r c.args.images.now values c.args.k) c.new_record-record.ensures
    ∙ ap₂ slot_block (sym zero_tail) (sym (new-slot-at g r c.args.images.now values c.args.k old)))
