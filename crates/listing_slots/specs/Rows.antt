-- The records of a table while they are written, one behind the other, whatever its header is.
-- Assumes nothing.
use Rattle.std.specs.Prelude.{◌≡◌, List, ℕ, ◌<◌, ◌≤◌, length, take, drop, replicate}
use Rattle.definitions.specs.Lists.{tabulate, concat_map}
use Rattle.definitions.specs.Graph.{header_bytes, tail_bytes, slot_limit, record_at, Slot, empty_slot, slot_block}

-- the bytes of a table of as many slots as there may be
abbrev pub table_bytes : ℕ
table_bytes = record_at slot_limit

-- the record of a slot, with no count
unfoldable pub row : Slot → List ℕ
row s = slot_block (replicate tail_bytes 0) s

-- those of the first n slots
unfoldable pub rows : (ℕ → Slot) → ℕ → List ℕ
rows slots n = concat_map (λ k. row (slots k)) (tabulate n (λ k. k))

-- the table has these records first, behind its header
abbrev pub HasRows : (ℕ → Slot) → ℕ → List ℕ → Type 0
HasRows slots n table = drop header_bytes (take (record_at n) table) ≡ rows slots n

-- where the slots from `from` up to `to` are Empty, the table has them too
pub record Cleared (from to : ℕ) (before after : List ℕ) : Type 0 where
  pub size : length after ≡ length before
  pub holds : (slots : ℕ → Slot) → ((k : ℕ) → from ≤ k → k < to → slots k ≡ empty_slot) → HasRows slots from before → HasRows slots to after
