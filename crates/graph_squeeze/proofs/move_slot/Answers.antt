-- The record that is read stands for the slot that the block holds there; renamed and written, it stands for the renamed one.
use mathlib.Core.Path.{subst}
use mathlib.Core.List.{List}
use Prim.Native.Nat.{ℕ}
use lib.ListN.{replicate}
use Rattle.definitions.specs.Graph.{tail_bytes, record_at, renamed}
use Rattle.graph_records.proofs.Laws.{stands_bytes}
use Rattle.graph_records.proofs.Standing.{stands_read}
use Rattle.graph_slots.specs.Written.{SlotWritten}
use Rattle.graph_moves.specs.Moving.{name_in}
use Rattle.graph_squeeze.proofs.move_slot.Goals as goal

pub returns : goal.returns
returns c = let zeros : List ℕ = replicate tail_bytes 0 in
    λ slot held.
    let stands = c.renamed_record.ensures slot
    (stands_read held.tail slot held.fits c.args.graph.now (record_at c.args.v) held.bytes c.read_record-record.ensures.read_from) in
    subst (λ (b : List ℕ). SlotWritten c.args.k b c.args.graph.now c.write_slot.new.graph)
    (stands_bytes zeros c.renamed_record.result (renamed (name_in c.args.to.now) slot) stands) c.write_slot.ensures

pub renamed_record-requires-clause-names_slots : goal.renamed_record-requires-clause-names_slots
renamed_record-requires-clause-names_slots c = record {
  slot = c.requires.held_slot.slot;
  stands = stands_read c.requires.held_slot.held.tail c.requires.held_slot.slot c.requires.held_slot.held.fits c.args.graph.now (record_at c.args.v) c.requires.held_slot.held.bytes c.read_record-record.ensures.read_from;
  few = c.requires.held_slot.held.fits.few_inputs;
  named = c.requires.held_slot.named;
}
