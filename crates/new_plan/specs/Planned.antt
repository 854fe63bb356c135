-- What a rewriting at one match comes to, as the code tells it: done where it is accepted, or the refusal.
-- Assumes nothing.
use Rattle.std.specs.Prelude.{◌≡◌, List, ℕ, ◌≤◌, length, take, Ok, Err}
use Rattle.definitions.specs.declared.Refusal.{Refusal}
use Rattle.definitions.specs.Reply.{Reply}
use Rattle.definitions.specs.Graph.{unused_place, Graph, graph_of, graph_block, SoundGraph}
use Rattle.definitions.specs.Rule.{side_capacity, source_count}
use Rattle.definitions.specs.Match.{image_of, Match}
use Rattle.definitions.specs.Operations.{Rewritten, accepted, turned_down}
use Rattle.rule_fields.specs.Fixed.{fixed_of}
use Rattle.rule_nodes.specs.Working.{WorkingRule}
use Rattle.encoding.specs.Tables.{Table}

-- a sound graph, a rule to work on, and an array that begins with the images of a match of theirs and holds 65535 after them
pub record Matched (graph rule images : List ℕ) : Type 0 where
  pub sound_graph : SoundGraph graph
  pub working : WorkingRule rule
  pub size : length images ≡ side_capacity
  pub is_match : Match (graph_of graph) (fixed_of rule) (take (source_count rule) images)
  pub rest : (i : ℕ) → source_count rule ≤ i → image_of images i ≡ unused_place

-- the new table is made in a block of its own, which can be committed
pub record Planned (best : Rewritten) (reply : Reply) (table : List ℕ) : Type 0 where
  pub done : (value : ℕ) → reply ≡ Ok value → (new : Graph) × Table new × (best ≡ accepted new) × (table ≡ graph_block new)
  pub refused : (why : Refusal) → reply ≡ Err why → best ≡ turned_down why
