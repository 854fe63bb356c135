-- Which bytes of a graph block are kept.
-- Assumes nothing.
use Rattle.std.specs.Prelude.{◌≡◌, List, ◌⊎◌, ℕ, ◌+◌, ◌<◌, ◌≤◌}
use Rattle.definitions.specs.Fields.{byte_at}
use Rattle.definitions.specs.Graph.{slot_bytes, count_offset, count_bytes, version_offset, record_at, graph_of, true_count}

-- byte i of a header is none of its version's, and byte i of a record none of its count's
abbrev pub OutsideVersion : ℕ → Type 0
OutsideVersion i = (i < version_offset) ⊎ (version_offset + 2 ≤ i)

abbrev pub OutsideCount : ℕ → Type 0
OutsideCount i = (i < count_offset) ⊎ (count_offset + count_bytes ≤ i)

-- byte i of slot k's record is the same after as before
abbrev pub SameByte : List ℕ → List ℕ → ℕ → ℕ → Type 0
SameByte graph graph_after k i = byte_at graph_after (record_at k + i) ≡ byte_at graph (record_at k + i)

-- Slot k's record keeps every byte but its count, and its count too where as many places name the slot after as before.
pub record KeepsRecord (graph graph_after : List ℕ) (k : ℕ) : Type 0 where
  pub others : (i : ℕ) → i < slot_bytes → OutsideCount i → SameByte graph graph_after k i
  pub all : true_count (graph_of graph_after) k ≡ true_count (graph_of graph) k → (i : ℕ) → i < slot_bytes → SameByte graph graph_after k i
