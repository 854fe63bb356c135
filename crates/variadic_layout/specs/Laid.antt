-- The made layout of the fixed rule for n: header, records and table, by the bytes. The nodes between records and table are written by another.
-- Assumes nothing.
use Rattle.std.specs.Prelude.{◌≡◌, ℕ, ◌+◌, ◌*◌, ◌<◌, ◌≤◌, length, get_or}
use mathlib.Core.List.{List, Memᴰ}
use Rattle.definitions.specs.Lists.{position}
use Rattle.definitions.specs.Fields.{byte_at}
use Rattle.definitions.specs.Rule.{rule_header_bytes, pattern_bytes, node_bytes, target_base, side_capacity, source_count, rule_output_count, node_count, vertex_at, node_at, given, expression_of}
use Rattle.definitions.specs.Variadic.{target_names, source_order, target_order, source_number, seen}
use Rattle.definitions.specs.VariadicBlock.{expanded_limit, variadic_of}
use Rattle.rule_fields.specs.Fixed.{fixed_node_limit, expression_in, attribute_place_bytes, table_at}
use Rattle.variadic_terms.specs.Terms.{term_of}
use Rattle.variadic_layout.specs.Bytes.{output_byte, record_byte, table_byte, header_bytes}

-- a layout of 64 vertices a side and of all the nodes that 64 nodes can give fits
abbrev pub layout_bytes : ℕ
layout_bytes = rule_header_bytes + pattern_bytes * (2 * side_capacity) + node_bytes * fixed_node_limit + attribute_place_bytes * (2 * side_capacity)

module _ (block : List ℕ) (n : ℕ) where
  abbrev pub sources_of : List ℕ
  sources_of = source_order (variadic_of block) n

  abbrev pub targets_of : List ℕ
  targets_of = target_order (variadic_of block) n

  abbrev pub input_number : ℕ → ℕ
  input_number c = position c sources_of

  abbrev pub target_number : ℕ → ℕ
  target_number c = position c targets_of

  -- bytes of either side
  abbrev pub source_byte : ℕ → ℕ → ℕ
  source_byte c b = record_byte block 0 0 0 input_number input_number (byte_at block 14) n c b

  abbrev pub target_byte : ℕ → ℕ → ℕ
  target_byte c b = record_byte block (source_count block) target_base expanded_limit input_number target_number (byte_at block 15) n c b

  abbrev pub source_output : ℕ → ℕ
  source_output i = output_byte block 0 0 0 input_number input_number 10 i

  abbrev pub target_output : ℕ → ℕ
  target_output i = output_byte block (source_count block) target_base expanded_limit input_number target_number 12 i

  abbrev pub header_of : List ℕ
  header_of =
      header_bytes (length sources_of) (length targets_of) (rule_output_count block) (node_count block * (n + 1)) (source_output 0) (source_output 1)
      (target_output 0) (target_output 1)

pub record LaidOut (block : List ℕ) (n : ℕ) (laid : List ℕ) : Type 0 where
  pub size : length laid ≡ layout_bytes
  pub few_sources : length (sources_of block n) ≤ expanded_limit
  pub few_targets : length (targets_of block n) ≤ expanded_limit
  pub header : (b : ℕ) → b < rule_header_bytes → byte_at laid b ≡ get_or (header_of block n) b 0
  pub source_records : (j b : ℕ) → j < length (sources_of block n) → b < pattern_bytes
      → byte_at laid (vertex_at j + b) ≡ source_byte block n (get_or (sources_of block n) j 0) b
  pub target_records : (t b : ℕ) → t < length (targets_of block n) → b < pattern_bytes
      → byte_at laid (vertex_at (length (sources_of block n) + t) + b) ≡ target_byte block n (get_or (targets_of block n) t 0) b
  pub source_table : (j b : ℕ) → j < length (sources_of block n) → b < attribute_place_bytes
      → byte_at laid (table_at laid + attribute_place_bytes * j + b) ≡ table_byte block 0 n (get_or (sources_of block n) j 0) b
  pub target_table : (t b : ℕ) → t < length (targets_of block n) → b < attribute_place_bytes
      → byte_at laid (table_at laid + attribute_place_bytes * (length (sources_of block n) + t) + b)
      ≡ table_byte block (source_count block) n (get_or (targets_of block n) t 0) b

-- and the nodes are as they were
pub record Laid (block : List ℕ) (n : ℕ) (before after : List ℕ) : Type 0 where
  pub laid : LaidOut block n after
  pub kept : (x : ℕ) → node_at after 0 ≤ x → x < table_at after → byte_at after x ≡ byte_at before x

-- ---- what the fixed rule needs besides

-- every node of the block, where the index is i, stands in the layout as its term
pub record TermsIn (block : List ℕ) (n : ℕ) (laid : List ℕ) : Type 0 where
  pub terms : (k i : ℕ) → k < node_count block → i ≤ n
      → expression_in laid (term_of block n k i) ≡ seen (variadic_of block) n (expression_of block k) i

-- The rule inputs that the target names have numbers below 64, from where on place numbers name target vertices. With 64 source copies one
-- that the traversal does not visit would have the number 64.
pub record InputsNumbered (block : List ℕ) (n : ℕ) : Type 0 where
  pub fields : (c v : ℕ) → Memᴰ c (targets_of block n) → Memᴰ (given v) (target_names (variadic_of block) n c)
      → source_number (variadic_of block) n v < expanded_limit
  pub outputs : (v : ℕ) → Memᴰ (given v) (variadic_of block).plain.target_outputs → source_number (variadic_of block) n v < expanded_limit
