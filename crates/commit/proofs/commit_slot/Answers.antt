-- A record that stays is the table's already. One that is read from the table and written has the bytes of its fields, and the table's tail.
use mathlib.Core.Path.{◌≡◌, ap, ◌∙◌}
use mathlib.Core.List.{◌++◌}
use Prim.Native.Nat.{◌+◌, ◌-◌}
use native.Mathlib.Omega.{arith}
use lib.ListN.{take, drop, length-drop}
use lib.Seq.{length-take-le}
use Rattle.definitions.specs.Graph.{slot_bytes, tail_offset, tail_bytes, record_at}
use Rattle.graph_records.specs.Records.{record_bytes}
use Rattle.graph_records.proofs.Laws.{record_length}
use Rattle.graph_slots.specs.Written.{SlotWritten}
use Rattle.commit.proofs.Laws.{whole_record, kept_slot, written-slot}
use borrow.Author.Rules.{rules}
use Rattle.commit.proofs.commit_slot.Goals as goal

pub returns-else-not-same_record : goal.returns-else-not-same_record
returns-else-not-same_record c = kept_slot c.args.graph.now c.args.table.now c.args.k c.requires.committed (c.same_record.ensures c.if-not-same_record.false)

pub returns-then-not-same_record : goal.returns-then-not-same_record
returns-then-not-same_record c = let at = record_at c.args.k in
    let tail = take tail_bytes (drop (at + tail_offset) c.args.table.now) in
    let given : at + slot_bytes - (at + tail_offset) ≡ tail_bytes = omega arith in
    let written : SlotWritten c.args.k (record_bytes tail c.read_record-record.result) c.args.graph.now c.write_slot.new.graph =
    rw given at c.write_slot.ensures in
    written-slot c.args.graph.now c.args.table.now c.args.k c.requires.committed written (omega (arith, c.requires.whole_graph.size, c.requires.k_bound))
    (record_length tail c.read_record-record.result
    (length-take-le tail_bytes (drop (at + tail_offset) c.args.table.now) (simp length-drop (omega (arith, c.requires.whole_graph.size, c.requires.k_bound))))
    c.read_record-record.ensures.inputs_len.0 c.read_record-record.ensures.inputs_len.1)
    (ap (λ fields. fields ++ tail) c.read_record-record.ensures.result_value ∙ whole_record c.args.table.now at)
