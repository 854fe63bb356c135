-- What evaluating the attributes of a rule's vertices asks of the blocks and the images, and of the numbers that name an attribute.
-- Assumes nothing.
use Rattle.std.specs.Prelude.{◌≡◌, List, ℕ, ◌<◌, ◌≤◌, length}
use Rattle.definitions.specs.Graph.{slot_count, graph_of, slot_of}
use Rattle.definitions.specs.Rule.{side_capacity, source_count, target_count, source_of, target_of}
use Rattle.rule_fields.specs.Fixed.{fixed_of}
use Rattle.graph_fields.specs.Layout.{ReadableGraph}
use Rattle.rule_fields.specs.Layout.{ReadableRule}
use Rattle.rule_nodes.specs.Working.{Evaluable}

-- a table and vertices that can be read, nodes that can be evaluated, and a place for every image
pub record Evaluation (graph rule images : List ℕ) : Type 0 where
  pub table : ReadableGraph graph
  pub patterns : ReadableRule rule
  pub evaluable : Evaluable rule
  pub image_size : length images ≡ side_capacity

-- source vertex j has an attribute i, and so has slot v
pub record SourceAttribute (graph rule : List ℕ) (j i v : ℕ) : Type 0 where
  pub vertex : j < source_count rule
  pub place : i < length (source_of (fixed_of rule) j).attributes
  pub slot : v < slot_count graph
  pub slot_place : i < length (slot_of (graph_of graph) v).attributes

-- slot v has as many attributes as source vertex j, or more
pub record SourceAttributes (graph rule : List ℕ) (j v : ℕ) : Type 0 where
  pub vertex : j < source_count rule
  pub slot : v < slot_count graph
  pub enough : length (source_of (fixed_of rule) j).attributes ≤ length (slot_of (graph_of graph) v).attributes

-- target vertex t has an attribute i
pub record TargetAttribute (rule : List ℕ) (t i : ℕ) : Type 0 where
  pub vertex : t < target_count rule
  pub place : i < length (target_of (fixed_of rule) t).attributes
