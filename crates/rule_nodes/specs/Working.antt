-- A rule on whose bytes matching and rewriting work: it can be read and evaluated, and it is sound, with as many vertices a side as there is
-- space for.
-- Assumes nothing.
use Rattle.std.specs.Prelude.{List, ℕ, ◌+◌, ◌<◌}
use Rattle.definitions.specs.Fields.{byte_at}
use Rattle.definitions.specs.Rule.{side_capacity, source_count, target_count, vertex_at}
use Rattle.definitions.specs.FixedRule.{SoundFixed}
use Rattle.rule_fields.specs.Fixed.{nodes_in, attribute_node, fixed_of}
use Rattle.rule_fields.specs.Layout.{ReadableRule}
use Rattle.rule_nodes.specs.Nodes.{GoodNode}

-- operands are earlier nodes, and attributes name nodes
pub record Evaluable (block : List ℕ) : Type 0 where
  pub nodes : (k : ℕ) → k < nodes_in block → GoodNode block k
  pub uses : (v i : ℕ) → v < source_count block + target_count block → i < byte_at block (vertex_at v + 3) → attribute_node block v i < nodes_in block

pub record WorkingRule (block : List ℕ) : Type 0 where
  pub readable : ReadableRule block
  pub evaluable : Evaluable block
  pub sound : SoundFixed side_capacity (fixed_of block)
