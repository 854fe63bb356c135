-- What one attempt at the output images of a map asks, and what it asks of a match.
-- Assumes nothing.
use Rattle.std.specs.Prelude.{◌≡◌, List, ℕ, ◌*◌, ◌<◌, ◌≤◌, length, get_or}
use Rattle.definitions.specs.Fields.{u16_at}
use Rattle.definitions.specs.Rule.{side_capacity, source_count, Rule}
use Rattle.definitions.specs.Match.{image_of}
use Rattle.rule_nodes.specs.Working.{WorkingRule}
use Rattle.match_look.specs.Setting.{Setting}
use Rattle.match_map.specs.Holding.{places_in}

-- the rule is sound, the demands are counted, every source vertex has a place in the map, and there is space for the images
pub record AttemptReady (graph rule demanded map images : List ℕ) : Type 0 where
  pub working : WorkingRule rule
  pub setting : Setting graph rule demanded
  pub enough : source_count rule ≤ places_in map
  pub space : length images ≡ side_capacity

-- the first n source outputs are sent where the map says
abbrev pub SendsOutputs : Rule → List ℕ → ℕ → List ℕ → Type 0
SendsOutputs r map n images =
    (k : ℕ) → k < n → image_of images (get_or r.source_outputs k 255) ≡ u16_at map (2 * get_or r.source_outputs k 255)
