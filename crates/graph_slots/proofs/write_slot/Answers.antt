-- The part that is lent on for slot k comes back as its record.
use mathlib.Core.Path.{◌≡◌, ◌∙◌, subst}
use mathlib.Core.List.{List}
use Prim.Native.Nat.{ℕ, ◌+◌}
use native.Mathlib.Omega.{arith}
use lib.ListN.{length}
use Rattle.definitions.specs.Graph.{slot_bytes, record_at}
use Rattle.laws.proofs.Parts.{put_part}
use Rattle.graph_slots.specs.Written.{SlotWritten}
use Rattle.graph_slots.proofs.Laws.{part_written}
use borrow.Author.Rules.{rules}
use Rattle.graph_slots.proofs.write_slot.Goals as goal

pub returns : goal.returns
returns c = let at = record_at c.args.k in
    let size : length c.write_record.new.part ≡ slot_bytes = c.graph-1.given.0 ∙ c.write_record-arg-1.given.2 ∙ omega arith in
    subst (λ (b : List ℕ). SlotWritten c.args.k b c.args.graph.now (put_part at (at + slot_bytes) c.args.graph.now c.write_record.new.part)) c.write_record.ensures
    (part_written c.args.k c.args.graph.now c.write_record.new.part c.requires.k_in_bounds size)
