-- What a block that is half written still holds of the old table.
-- Assumes nothing.
use Rattle.std.specs.Prelude.{◌≡◌, List, ℕ, ◌+◌, ◌<◌, get_or}
use Rattle.definitions.specs.Fields.{byte_at}
use Rattle.definitions.specs.Graph.{slot_bytes, record_at, Slot, slot_block}
use Rattle.graph_records.specs.Records.{Writable}
use Rattle.graph_moves.specs.Moving.{Renamable}

-- the record of slot v holds this slot, which can be written
pub record Held (block : List ℕ) (v : ℕ) (s : Slot) : Type 0 where
  pub fits : Writable s
  pub tail : List ℕ
  pub bytes : (i : ℕ) → i < slot_bytes → byte_at block (record_at v + i) ≡ get_or (slot_block tail s) i 0

-- it holds a slot, which reads slots
pub record HeldSlot (block : List ℕ) (v : ℕ) : Type 0 where
  pub slot : Slot
  pub held : Held block v slot
  pub named : Renamable slot.inputs
