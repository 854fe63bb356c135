-- What evaluating asks of the blocks and the images.
-- Assumes nothing.
use Rattle.std.specs.Prelude.{◌≡◌, List, ℕ, ◌<◌, length}
use Rattle.definitions.specs.Rule.{side_capacity, form_add, node_form}
use Rattle.rule_fields.specs.Fixed.{nodes_in}
use Rattle.graph_fields.specs.Layout.{ReadableGraph}
use Rattle.rule_fields.specs.Layout.{WholeRule}
use Rattle.rule_nodes.specs.Working.{Evaluable}

-- what working out a node's result asks: a table and nodes that can be read and evaluated, and a place for every image
pub record NodeEvaluation (graph rule images : List ℕ) : Type 0 where
  pub table : ReadableGraph graph
  pub whole : WholeRule rule
  pub evaluable : Evaluable rule
  pub image_size : length images ≡ side_capacity

-- node k is no operation
pub record Leaf (rule : List ℕ) (k : ℕ) : Type 0 where
  pub inside : k < nodes_in rule
  pub form : node_form rule k < form_add
