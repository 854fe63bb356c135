-- What a reader of a graph block's fields asks of the block: its layout, and not that the graph is sound.
-- Assumes nothing.
use Rattle.std.specs.Prelude.{◌≡◌, List, ℕ, ◌<◌, ◌≤◌, length, get_or}
use Rattle.definitions.specs.Graph.{slot_limit, input_limit, attribute_limit, output_limit, unused_place, slot_count, output_count, record_at, graph_of, slot_of, inputs_of}

-- the block holds its header and all the slots that the header counts
pub record WholeGraph (block : List ℕ) : Type 0 where
  pub size : length block ≡ record_at (slot_count block)
  pub slots : slot_count block ≤ slot_limit
  pub outputs : output_count block ≤ output_limit

-- and no record counts more inputs or attributes than it has places for
pub record ReadableGraph (block : List ℕ) : Type 0 where
  pub whole : WholeGraph block
  pub inputs : (k : ℕ) → k < slot_count block → length (inputs_of (graph_of block) k) ≤ input_limit
  pub attributes : (k : ℕ) → k < slot_count block → length (slot_of (graph_of block) k).attributes ≤ attribute_limit

-- every input names a slot
pub record Closed (block : List ℕ) : Type 0 where
  pub named : (k i : ℕ) → k < slot_count block → i < length (inputs_of (graph_of block) k)
      → get_or (inputs_of (graph_of block) k) i unused_place < slot_count block

-- every output names a slot
pub record OutputsNamed (block : List ℕ) : Type 0 where
  pub named : (i : ℕ) → i < output_count block → get_or (graph_of block).outputs i unused_place < slot_count block
