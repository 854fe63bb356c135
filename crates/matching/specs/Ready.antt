-- What each function of the walk asks of the lent blocks and of the images so far, and what vertex matching comes to.
-- Assumes nothing.
use Rattle.std.specs.Prelude.{◌≡◌, Bool, true, false, List, [], ◌∷◌, ℕ, suc, ◌<◌, ◌≤◌, max, length, drop}
use Rattle.definitions.specs.Graph.{slot_count, Graph, graph_of, slot_of}
use Rattle.definitions.specs.Rule.{Rule, source_count, source_of, source_inputs}
use Rattle.rule_fields.specs.Fixed.{fixed_of}
use Rattle.rule_order.specs.InOrder.{InOrder}
use Rattle.match_look.specs.Candidate.{is_candidate}
use Rattle.match_look.specs.Look.{look}
use Rattle.match_look.specs.Setting.{Setting}
use Rattle.match_images.specs.Partial.{Partial, Sends, Step}

-- the first `next` source vertices have their images, and the traversal goes on with vertex j
pub record VertexReady (graph rule demanded : List ℕ) (j v next : ℕ) (images : List ℕ) : Type 0 where
  pub setting : Setting graph rule demanded
  pub vertex : j < source_count rule
  pub slot : v < slot_count graph
  pub partial : Partial (graph_of graph) (fixed_of rule) next images
  pub order : InOrder (fixed_of rule) next (j ∷ [])

-- the same, where j has no image yet and v is a candidate for it
pub record CandidateReady (graph rule demanded : List ℕ) (j v next : ℕ) (images : List ℕ) : Type 0 where
  pub setting : Setting graph rule demanded
  pub vertex : j < source_count rule
  pub slot : v < slot_count graph
  pub candidate : is_candidate (graph_of graph) (fixed_of rule) j v ≡ true
  pub fresh : next ≤ j
  pub partial : Partial (graph_of graph) (fixed_of rule) next images
  pub order : InOrder (fixed_of rule) next (j ∷ [])

-- The first `next` source vertices have their images, and the traversal goes on with the inputs of vertex j from place i on. Slot v is a
-- candidate for j, so that no input is entered where the look said no.
pub record InputsReady (graph rule demanded : List ℕ) (j v i next : ℕ) (images : List ℕ) : Type 0 where
  pub setting : Setting graph rule demanded
  pub vertex : j < source_count rule
  pub slot : v < slot_count graph
  pub candidate : is_candidate (graph_of graph) (fixed_of rule) j v ≡ true
  pub place : i ≤ length (source_inputs (fixed_of rule) j)
  pub partial : Partial (graph_of graph) (fixed_of rule) next images
  pub order : InOrder (fixed_of rule) next (drop i (source_inputs (fixed_of rule) j))

-- After a no of the look, vertex matching says no, and the images are as they were. That it enters no input on the way is no matter of values:
-- it goes to inputs by way of CandidateReady and InputsReady alone, and both ask for a candidate.
abbrev pub AfterNo : Graph → Rule → ℕ → ℕ → ℕ → List ℕ → Bool → List ℕ → Type 0
AfterNo g r j v next images ok made =
    next ≤ j → look (source_of r j) (slot_of g v) ≡ false → (ok ≡ false) × (made ≡ images)

pub record VertexDone (g : Graph) (r : Rule) (j v next : ℕ) (images : List ℕ) (ok : Bool) (made : List ℕ) : Type 0 where
  pub step : Step g r next images (Sends j v) (max next (suc j)) ok made
  pub after_no : AfterNo g r j v next images ok made
