-- What has to be there for the places of a record to be read.
-- Assumes nothing.
use Rattle.std.specs.Prelude.{List, ℕ, ◌<◌}
use Rattle.definitions.specs.Graph.{slot_count}
use Rattle.definitions.specs.Rule.{target_count}
use Rattle.graph_fields.specs.Layout.{ReadableGraph}
use Rattle.rule_fields.specs.Layout.{ReadableRule}
use Rattle.redirection.specs.Moves.{Resolvable, Arrays}

-- slot k of a table that can be read
pub record ReadableSlot (block : List ℕ) (k : ℕ) : Type 0 where
  pub table : ReadableGraph block
  pub inside : k < slot_count block

-- target vertex t of a rule that can be read, and places in the arrays for what its inputs name
pub record ReadableTarget (block images places : List ℕ) (t : ℕ) : Type 0 where
  pub patterns : ReadableRule block
  pub resolvable : Resolvable block
  pub arrays : Arrays images places
  pub inside : t < target_count block
