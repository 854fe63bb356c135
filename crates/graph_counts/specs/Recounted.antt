-- A block whose counts are stored anew.
-- Assumes nothing.
use Rattle.std.specs.Prelude.{List, ◌++◌, ℕ, take}
use Rattle.definitions.specs.Lists.{tabulate, concat_map}
use Rattle.definitions.specs.Graph.{header_bytes, count_offset, slot_count, record_at, graph_of, true_count}
use Rattle.writing.specs.Numbers.{with_u16}
use Rattle.graph_records.specs.Records.{slot_at}

-- the bytes of a record with this count in them
abbrev pub with_count : ℕ → List ℕ → List ℕ
with_count n bytes = with_u16 count_offset n bytes

-- the block in which every record stores its true count, and every other byte is as it was
unfoldable pub recounted : List ℕ → List ℕ
recounted block =
    take header_bytes block
    ++ concat_map (λ k. with_count (true_count (graph_of block) k) (slot_at block (record_at k))) (tabulate (slot_count block) (λ k. k))
