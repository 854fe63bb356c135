-- The bytes on which matching and rewriting work: a version 1 block as it is lent, or a fixed rule that is made of a variadic one, in a layout
-- that has space for 64 vertices a side and for the nodes of an expansion. Both have the same header and the same records; the second differs
-- in what this file says. No paper names it, and a lent block that has its version is refused (30).
-- Assumes nothing.
use Rattle.std.specs.Prelude.{Bool, cond, List, ℕ, ◌+◌, ◌*◌, eqb, get_or}
use Rattle.definitions.specs.Lists.{build}
use Rattle.definitions.specs.Fields.{byte_at, u16_at}
use Rattle.definitions.specs.Rule.{target_base, node_limit, node_count, vertex_at, node_at, Expression, anything, Origin, Rule, origin_by, node_left, node_right, node_by, attribute_in, rule_by}
use Rattle.definitions.specs.VariadicBlock.{field_limit, expanded_limit}

-- what byte 4 of the made layout holds
abbrev pub expanded_version : ℕ
expanded_version = 3

unfoldable pub is_expanded : List ℕ → Bool
is_expanded block = eqb (byte_at block 4) expanded_version

-- the first place number that names a target vertex
unfoldable pub split_in : List ℕ → ℕ
split_in block = cond (is_expanded block) expanded_limit target_base

abbrev pub origin_in : List ℕ → ℕ → Origin
origin_in block p = origin_by (split_in block) p

-- ---- nodes: a node of the block gives one for each index from 0 to n

abbrev pub fixed_node_limit : ℕ
fixed_node_limit = node_limit * (field_limit + 1)

-- byte 14 has the high byte of their number
unfoldable pub nodes_in : List ℕ → ℕ
nodes_in block = cond (is_expanded block) (node_count block + 256 * byte_at block 14) (node_count block)

-- an operation's operands; bytes 4 and 5 of the node have their high bytes
unfoldable pub left_in : List ℕ → ℕ → ℕ
left_in block = cond (is_expanded block) (λ k. node_left block k + 256 * byte_at block (node_at block k + 4)) (node_left block)

unfoldable pub right_in : List ℕ → ℕ → ℕ
right_in block = cond (is_expanded block) (λ k. node_right block k + 256 * byte_at block (node_at block k + 5)) (node_right block)

abbrev pub node_in : List ℕ → List Expression → ℕ → Expression
node_in block earlier k = node_by (left_in block) (right_in block) block earlier k

unfoldable pub expression_in : List ℕ → ℕ → Expression
expression_in block k = get_or (build (node_in block) (nodes_in block)) k anything

-- ---- attributes: behind the nodes stand two bytes for each attribute place of each vertex

abbrev pub attribute_place_bytes : ℕ
attribute_place_bytes = 12

abbrev pub table_at : List ℕ → ℕ
table_at block = node_at block (nodes_in block)

unfoldable pub attribute_node : List ℕ → ℕ → ℕ → ℕ
attribute_node block =
    cond (is_expanded block) (λ v i. u16_at block (table_at block + attribute_place_bytes * v + 2 * i)) (λ v i. byte_at block (vertex_at v + 10 + i))

unfoldable pub attribute_of_fixed : List ℕ → ℕ → ℕ → Expression
attribute_of_fixed block = cond (is_expanded block) (λ v i. expression_in block (attribute_node block v i)) (attribute_in block)

-- ---- the rule

unfoldable pub fixed_of : List ℕ → Rule
fixed_of block = rule_by (origin_in block) (attribute_of_fixed block) block
