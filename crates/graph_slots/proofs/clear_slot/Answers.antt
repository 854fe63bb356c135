-- What is written is the record of the Empty slot.
use mathlib.Core.Path.{subst}
use mathlib.Core.List.{List}
use Prim.Native.Nat.{ℕ}
use lib.ListN.{replicate}
use Rattle.definitions.specs.Graph.{tail_bytes, empty_slot}
use Rattle.graph_records.proofs.Laws.{stands_bytes}
use Rattle.graph_slots.specs.Written.{empty_bytes, SlotWritten}
use borrow.Author.Rules.{rules}
use Rattle.graph_slots.proofs.clear_slot.Goals as goal

pub returns : goal.returns
unfolding empty_bytes
returns c = subst (λ (b : List ℕ). SlotWritten c.args.k b c.args.graph.now c.write_slot.new.graph)
    (stands_bytes (replicate tail_bytes 0) c.empty_record.result empty_slot c.empty_record.ensures) c.write_slot.ensures
