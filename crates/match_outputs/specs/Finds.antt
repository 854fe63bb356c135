-- What a search asks, and what it found, as the least match says it.
-- Assumes nothing.
use Rattle.std.specs.Prelude.{◌≡◌, List, ℕ, ◌≤◌, length, take, MatchOption}
use Rattle.std.specs.declared.option.Option as declared
use Rattle.std.proofs.Math.Option.{Option, none, some}
use Rattle.definitions.specs.Graph.{unused_place}
use Rattle.definitions.specs.Rule.{side_capacity}
use Rattle.definitions.specs.Match.{image_of}
use Rattle.rule_fields.specs.Fixed.{fixed_of}
use Rattle.rule_nodes.specs.Working.{WorkingRule}
use Rattle.match_look.specs.Setting.{Setting}

-- `best` is the least match, of n images; the array begins with them, and 65535 stands in its other places.
pub record LeastImages (best : Option (List ℕ)) (n : ℕ) (images : List ℕ) : Type 0 where
  pub found : best ≡ some (take n images)
  pub size : length images ≡ side_capacity
  pub small : n ≤ side_capacity
  pub rest : (i : ℕ) → n ≤ i → image_of images i ≡ unused_place

-- where there is a least match, its images are found, and else none
abbrev pub Finds : Option (List ℕ) → ℕ → declared.Option (List ℕ) → Type 0
Finds best n result = MatchOption result (best ≡ none) (LeastImages best n)

-- the rule is sound, its source outputs are these, and the demands are counted
pub record SearchReady (graph rule demanded : List ℕ) (outputs : List ℕ) : Type 0 where
  pub working : WorkingRule rule
  pub listed : (fixed_of rule).source_outputs ≡ outputs
  pub setting : Setting graph rule demanded
