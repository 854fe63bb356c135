-- What soundness of a graph block and of a rule gives to matching.
-- Assumes nothing.
use mathlib.Core.Path.{◌≡◌}
use mathlib.Core.List.{List}
use Prim.Native.Nat.{ℕ, ◌<◌}
use lib.ListN.{length, get_or}
use Rattle.definitions.specs.Graph.{SoundGraph}
use Rattle.definitions.specs.Rule.{side_capacity, source_count}
use Rattle.rule_fields.specs.Fixed.{fixed_of}
use Rattle.graph_check.proofs.Readable.{graph_readable, graph_closed}
use Rattle.rule_uses.specs.Demands.{demand_of}
use Rattle.rule_nodes.specs.Working.{WorkingRule}
use Rattle.match_look.specs.Setting.{Setting}
use Rattle.match_look.proofs.Working.{rule_matchable}

-- with the demands that are counted in the rule
pub sound_setting : (graph rule demanded : List ℕ) → SoundGraph graph → WorkingRule rule
    → (length demanded ≡ side_capacity) × ((j : ℕ) → j < source_count rule → get_or demanded j 0 ≡ demand_of (fixed_of rule) j)
    → Setting graph rule demanded
sound_setting graph rule demanded sound working demands = record {
  readable = graph_readable graph sound;
  closed = graph_closed graph sound;
  matchable = rule_matchable rule working;
  counts = sound.counts;
  demands = demands;
}
