-- What a rewriting at one match leaves, as the code tells it: done where it is accepted, or the refusal.
-- Assumes nothing.
use Rattle.std.specs.Prelude.{◌≡◌, List, ℕ, Ok, Err}
use Rattle.definitions.specs.declared.Refusal.{Refusal}
use Rattle.definitions.specs.Reply.{Reply}
use Rattle.definitions.specs.Graph.{Graph, graph_block}
use Rattle.definitions.specs.Operations.{Rewritten, accepted, turned_down}

-- the graph block holds the new table, or is as it was
pub record Replaced (best : Rewritten) (reply : Reply) (before after : List ℕ) : Type 0 where
  pub done : (value : ℕ) → reply ≡ Ok value → (new : Graph) × (best ≡ accepted new) × (after ≡ graph_block new)
  pub refused : (why : Refusal) → reply ≡ Err why → (best ≡ turned_down why) × (after ≡ before)
