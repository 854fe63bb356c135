-- What the new table's slots are made from, and the facts that their making asks.
-- Assumes nothing.
use Rattle.std.specs.Prelude.{◌≡◌, true, List, [], ℕ, ◌<◌, ℤ, get_or}
use Rattle.std.proofs.Math.Option.{Option, none, some}
use Rattle.definitions.specs.Graph.{unused_place, graph_of}
use Rattle.definitions.specs.Rule.{side_capacity}
use Rattle.definitions.specs.Match.{read_attribute}
use Rattle.definitions.specs.Rewriting.{target_results, place_of}
use Rattle.rule_fields.specs.Fixed.{fixed_of}
use Rattle.graph_fields.specs.Layout.{ReadableGraph}
use Rattle.rule_fields.specs.Layout.{ReadableRule}
use Rattle.rule_nodes.specs.Working.{Evaluable}
use Rattle.target_attributes.specs.Words.{is_given}
use Rattle.redirection.specs.Moves.{Movable}

-- the results, where there are such
unfoldable pub values_of : {A : Type 0} → Option (List A) → List A
values_of none = []
values_of (some values) = values

-- the results of the target vertices' attributes
unfoldable pub fit_results : List ℕ → List ℕ → List ℕ → Option (List (List ℤ))
fit_results graph rule images = target_results (read_attribute (graph_of graph) images) (fixed_of rule).target

-- layouts that can be read, what the moves are made from, the target vertices' places, and results for every target attribute
pub record Prepared (graph rule images places : List ℕ) : Type 0 where
  pub old_table : ReadableGraph graph
  pub patterns : ReadableRule rule
  pub evaluable : Evaluable rule
  pub moves : Movable rule images places
  pub placed : (t : ℕ) → t < side_capacity → get_or places t unused_place ≡ place_of (graph_of graph) (fixed_of rule) images t
  pub known : is_given (fit_results graph rule images) ≡ true
