-- What giving a source vertex its image asks of the lent blocks and of the images so far.
-- Assumes nothing.
use Rattle.std.specs.Prelude.{◌≡◌, true, List, ℕ, ◌<◌}
use Rattle.definitions.specs.Graph.{slot_count, graph_of}
use Rattle.definitions.specs.Rule.{source_count}
use Rattle.rule_fields.specs.Fixed.{fixed_of}
use Rattle.graph_fields.specs.Layout.{ReadableGraph}
use Rattle.match_look.specs.Candidate.{is_candidate}
use Rattle.match_look.specs.Setting.{Matchable}
use Rattle.match_images.specs.Partial.{Partial, SendsInputs}

-- source vertex j is the next, its inputs have the inputs of slot v as their images, and v passed the look
pub record SettleReady (graph rule : List ℕ) (j v : ℕ) (images : List ℕ) : Type 0 where
  pub readable : ReadableGraph graph
  pub matchable : Matchable rule
  pub vertex : j < source_count rule
  pub slot : v < slot_count graph
  pub candidate : is_candidate (graph_of graph) (fixed_of rule) j v ≡ true
  pub partial : Partial (graph_of graph) (fixed_of rule) j images
  pub inputs : SendsInputs (graph_of graph) (fixed_of rule) j v 0 images
