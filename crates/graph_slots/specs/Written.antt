-- One slot's record, written, and a block that is written from its start, while its end is still the old one.
-- Assumes nothing.
use Rattle.std.specs.Prelude.{◌≡◌, List, ◌++◌, ℕ, ◌+◌, length, take, drop, replicate}
use Rattle.definitions.specs.Graph.{tail_bytes, record_at, empty_slot, slot_block}

-- the record of an Empty slot
unfoldable pub empty_bytes : List ℕ
empty_bytes = slot_block (replicate tail_bytes 0) empty_slot

-- these bytes are slot k's record, and every other byte is as it was
pub record SlotWritten (k : ℕ) (bytes before after : List ℕ) : Type 0 where
  pub front : take (record_at (k + 1)) after ≡ take (record_at k) before ++ bytes
  pub back : drop (record_at (k + 1)) after ≡ drop (record_at (k + 1)) before

-- below slot k the block is the new one, and from slot k on it is the old one
pub record Halfway (k : ℕ) (graph new old : List ℕ) : Type 0 where
  pub size : length graph ≡ length new
  pub front : take (record_at k) graph ≡ take (record_at k) new
  pub back : drop (record_at k) graph ≡ drop (record_at k) old
