-- What the writers ask of the block and of the orders, and what they leave.
-- Assumes nothing.
use Rattle.std.specs.Prelude.{◌≡◌, List, ℕ, ◌+◌, ◌-◌, ◌<◌, ◌≤◌, length, get_or}
use Rattle.definitions.specs.Fields.{byte_at}
use Rattle.definitions.specs.Graph.{attribute_limit}
use Rattle.definitions.specs.Rule.{rule_header_bytes, side_limit, target_base, rule_output_limit, node_limit, source_count, target_count, rule_output_count, node_count, vertex_at, node_at}
use Rattle.definitions.specs.Variadic.{original}
use Rattle.definitions.specs.VariadicBlock.{field_limit, expanded_limit}
use Rattle.variadic_order.specs.Order.{copy_numbers}
use Rattle.variadic_order.specs.Sides.{place_count, place_of, SideLayout, OutputLayout}

-- ---- what is asked

-- a side's records, as the check leaves them
pub record RecordLayout (block : List ℕ) (first base vertices tuple : ℕ) : Type 0 where
  pub side : SideLayout block first base vertices
  -- a place that names a rule input names a source vertex
  pub inputs : (u i : ℕ) → u < vertices → i < place_count block first u → place_of block first u i < base
      → place_of block first u i < source_count block
  pub sources : vertex_at (source_count block) ≤ length block
  pub few_sources : source_count block ≤ side_limit
  -- the named Tuple has one input place, where there is such a Tuple
  pub one_field : tuple < copy_numbers → place_count block first (original tuple) ≤ 1
  pub attributes : (u : ℕ) → u < vertices → byte_at block (vertex_at (first + u) + 3) ≤ attribute_limit
  pub uses : (u i : ℕ) → u < vertices → i < byte_at block (vertex_at (first + u) + 3)
      → byte_at block (vertex_at (first + u) + (10 + i)) < node_count block
  pub nodes : node_at block (node_count block) ≤ length block
  pub few_nodes : node_count block ≤ node_limit

-- both sides, and the outputs
pub record BlockLayout (block : List ℕ) : Type 0 where
  pub source : RecordLayout block 0 0 (source_count block) (byte_at block 14)
  pub target : RecordLayout block (source_count block) target_base (target_count block) (byte_at block 15)
  pub source_outputs : OutputLayout block 10 0 (source_count block)
  pub target_outputs : OutputLayout block 12 target_base (target_count block)
  -- a target output that is a rule input is a source vertex
  pub inputs : (i : ℕ) → i < rule_output_count block → byte_at block (12 + i) < target_base → byte_at block (12 + i) < source_count block

-- c is a copy of a vertex of the side, and n a number of fields
pub record CopyOf (block : List ℕ) (first base tuple n c : ℕ) : Type 0 where
  pub vertices : ℕ
  pub layout : RecordLayout block first base vertices tuple
  pub some : 1 ≤ n
  pub few : n ≤ field_limit
  pub below : c < copy_numbers
  pub vertex : original c < vertices

-- the first `count` of `copies` are such
abbrev pub CopiesOf : List ℕ → (first base tuple n : ℕ) → List ℕ → ℕ → Type 0
CopiesOf block first base tuple n copies count = (j : ℕ) → j < count → CopyOf block first base tuple n (get_or copies j 0)

-- the numbers of copies, each one more than it is, where there are `count` copies
pub record Numbers (numbers : List ℕ) (count : ℕ) : Type 0 where
  pub size : length numbers ≡ copy_numbers
  pub few : count ≤ expanded_limit
  pub each : (c : ℕ) → get_or numbers c 0 ≤ expanded_limit

-- the record of what place number p of a side names is there
pub record PlaceLayout (block : List ℕ) (first base index p : ℕ) : Type 0 where
  pub few : index ≤ field_limit
  pub input : p < base → vertex_at (p + 1) ≤ length block
  pub few_inputs : p < base → p < side_limit
  pub vertex : base ≤ p → vertex_at (first + (p - base) + 1) ≤ length block
  pub few_vertices : base ≤ p → p - base < side_limit

-- the outputs of a side, from byte `at` of the header on, name what is there
pub record OutputsOf (block : List ℕ) (first base at : ℕ) : Type 0 where
  pub header : at + rule_output_limit ≤ rule_header_bytes
  pub size : rule_header_bytes ≤ length block
  pub few : rule_output_count block ≤ rule_output_limit
  pub places : (i : ℕ) → i < rule_output_count block → PlaceLayout block first base 0 (byte_at block (at + i))

-- ---- what is left

-- the bytes from `at` on are those that `byte` gives, `count` of them, and every other one is as it was
pub record Written (at count : ℕ) (byte : ℕ → ℕ) (before after : List ℕ) : Type 0 where
  pub size : length after ≡ length before
  pub inside : (m : ℕ) → m < count → byte_at after (at + m) ≡ byte m
  pub below : (x : ℕ) → x < at → byte_at after x ≡ byte_at before x
  pub behind : (x : ℕ) → at + count ≤ x → byte_at after x ≡ byte_at before x
