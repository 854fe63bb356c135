-- What the removal is decided from: a match, and counts.
-- Assumes nothing.
use Rattle.std.specs.Prelude.{◌≡◌, Bool, true, false, not, ◌&&◌, ◌||◌, List, [], map, ℕ, ◌<◌, eqb, length}
use Rattle.definitions.specs.Graph.{slot_count, graph_of, inputs_of, TrueCounts}
use Rattle.definitions.specs.Rule.{side_capacity, source_count, Rule, source_inputs, is_rule_input}
use Rattle.definitions.specs.Match.{image_of, is_const}
use Rattle.rule_fields.specs.Fixed.{fixed_of}
use Rattle.graph_fields.specs.Layout.{WholeGraph}
use Rattle.rule_uses.specs.Countable.{CountableRule}

-- a graph block with true counts, a rule block whose places can be counted, and of a match what counting needs: images that are slots, no
-- two the same, whose inputs are the images of the pattern's inputs
pub record Removable (graph rule images : List ℕ) : Type 0 where
  pub table : WholeGraph graph
  pub counts : TrueCounts graph
  pub patterns : CountableRule rule
  pub plain : (j : ℕ) → is_rule_input (fixed_of rule) j ≡ true → source_inputs (fixed_of rule) j ≡ []
  pub image_size : length images ≡ side_capacity
  pub slots : (j : ℕ) → j < source_count rule → image_of images j < slot_count graph
  pub apart : (i j : ℕ) → i < source_count rule → j < source_count rule → image_of images i ≡ image_of images j → i ≡ j
  pub inputs : (j : ℕ) → j < source_count rule → is_rule_input (fixed_of rule) j ≡ false
      → inputs_of (graph_of graph) (image_of images j) ≡ map (image_of images) (source_inputs (fixed_of rule) j)

-- whether the image of source vertex j goes, by how often it is named, and how often the rule's own source names j
unfoldable pub goes_by : Rule → ℕ → ℕ → ℕ → Bool
goes_by r j uses places = not (is_rule_input r j) && (not (is_const r j) || eqb uses places)
