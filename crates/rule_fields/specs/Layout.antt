-- What a reader of a rule block's fields asks of the block: its layout, and not that the rule is sound.
-- Assumes nothing.
use Rattle.std.specs.Prelude.{◌≡◌, true, List, ℕ, ◌+◌, ◌*◌, ◌<◌, ◌≤◌, length, get_or}
use Rattle.definitions.specs.Fields.{byte_at}
use Rattle.definitions.specs.Graph.{input_limit, attribute_limit}
use Rattle.definitions.specs.Rule.{side_capacity, rule_output_limit, node_limit, source_count, target_count, rule_output_count, node_count, vertex_at, source_inputs}
use Rattle.rule_fields.specs.Fixed.{is_expanded, split_in, fixed_node_limit, nodes_in, attribute_place_bytes, table_at, fixed_of}

-- the block holds its header and all the vertices and nodes that the header counts, and where it is made, the nodes of their attributes
pub record WholeRule (block : List ℕ) : Type 0 where
  pub size : table_at block ≤ length block
  pub table : is_expanded block ≡ true → table_at block + attribute_place_bytes * (source_count block + target_count block) ≤ length block
  pub source : source_count block ≤ side_capacity
  pub target : target_count block ≤ side_capacity
  -- no rule input has a place number that names a target vertex
  pub split : source_count block ≤ split_in block
  pub outputs : rule_output_count block ≤ rule_output_limit
  pub nodes : nodes_in block ≤ fixed_node_limit

-- the same of a block that is lent, whose nodes are those that its header counts
pub record LentRule (block : List ℕ) : Type 0 where
  pub whole : WholeRule block
  pub same_nodes : nodes_in block ≡ node_count block
  pub few_nodes : node_count block ≤ node_limit

-- and no record counts more inputs or attributes than it has places for
pub record ReadableRule (block : List ℕ) : Type 0 where
  pub whole : WholeRule block
  pub inputs : (v : ℕ) → v < source_count block + target_count block → byte_at block (vertex_at v + 2) ≤ input_limit
  pub attributes : (v : ℕ) → v < source_count block + target_count block → byte_at block (vertex_at v + 3) ≤ attribute_limit

-- source inputs name lower vertices, and source outputs name vertices
pub record Layered (block : List ℕ) : Type 0 where
  pub lower : (j i : ℕ) → j < source_count block → i < length (source_inputs (fixed_of block) j)
      → get_or (source_inputs (fixed_of block) j) i 255 < j
  pub outputs : (i : ℕ) → i < rule_output_count block → get_or (fixed_of block).source_outputs i 255 < source_count block

-- both of these: what is asked to follow source inputs down from the outputs
pub record LayeredRule (block : List ℕ) : Type 0 where
  pub readable : ReadableRule block
  pub layered : Layered block
