-- What judging a fixed rule's bytes asks of them, beyond that they can be read: what their maker leaves; and the highest accesses of the nodes.
-- Assumes nothing.
use Rattle.std.specs.Prelude.{◌≡◌, true, ◌||◌, List, ℕ, ◌+◌, ◌<◌, ◌≤◌, length, get_or}
use Rattle.definitions.specs.Fields.{byte_at, filled}
use Rattle.definitions.specs.Rule.{source_count, target_count, rule_output_count, vertex_at, anything, source_of, target_of}
use Rattle.definitions.specs.FixedRule.{is_any, definite}
use Rattle.rule_fields.specs.Fixed.{fixed_node_limit, nodes_in, expression_in, fixed_of}
use Rattle.rule_fields.specs.Layout.{ReadableRule}
use Rattle.rule_nodes.specs.Working.{Evaluable}
use Rattle.rule_accesses.specs.Access.{top_access}

pub record Judgeable (block : List ℕ) : Type 0 where
  pub readable : ReadableRule block
  pub evaluable : Evaluable block
  pub some_output : 1 ≤ rule_output_count block
  -- unused places hold 255
  pub input_places : (v : ℕ) → v < source_count block + target_count block
      → filled block (vertex_at v + 4 + byte_at block (vertex_at v + 2)) (vertex_at v + 10) 255 ≡ true
  pub attribute_places : (v : ℕ) → v < source_count block + target_count block
      → filled block (vertex_at v + 10 + byte_at block (vertex_at v + 3)) (vertex_at v + 16) 255 ≡ true
  -- an attribute of a source vertex is any or definite, one of a target vertex definite
  pub sources : (j i : ℕ) → j < source_count block → i < length (source_of (fixed_of block) j).attributes
      → (is_any (get_or (source_of (fixed_of block) j).attributes i anything) || definite (get_or (source_of (fixed_of block) j).attributes i anything))
      ≡ true
  pub targets : (t i : ℕ) → t < target_count block → i < length (target_of (fixed_of block) t).attributes
      → definite (get_or (target_of (fixed_of block) t).attributes i anything) ≡ true

-- the highest accesses of the nodes below k are known
pub record TopsBelow (block : List ℕ) (k : ℕ) (tops : List ℕ) : Type 0 where
  pub size : length tops ≡ fixed_node_limit
  pub known : (j : ℕ) → j < k → get_or tops j 0 ≡ top_access (expression_in block j)

-- and of all
abbrev pub TopsOf : List ℕ → List ℕ → Type 0
TopsOf block tops = TopsBelow block (nodes_in block) tops
