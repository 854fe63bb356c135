-- What matching asks of the lent blocks, and of what is counted in the rule.
-- Assumes nothing.
use Rattle.std.specs.Prelude.{◌≡◌, true, List, [], ℕ, ◌<◌, length, get_or}
use Rattle.definitions.specs.Operators.{kind_empty}
use Rattle.definitions.specs.Graph.{slot_count, TrueCounts}
use Rattle.definitions.specs.Rule.{side_capacity, source_count, anything, source_of, source_inputs, is_rule_input, accesses_below}
use Rattle.rule_fields.specs.Fixed.{fixed_of}
use Rattle.graph_fields.specs.Layout.{ReadableGraph, Closed}
use Rattle.rule_fields.specs.Layout.{ReadableRule, Layered}
use Rattle.rule_nodes.specs.Working.{Evaluable}
use Rattle.rule_uses.specs.Demands.{demand_of}

pub record Matchable (block : List ℕ) : Type 0 where
  pub readable : ReadableRule block
  pub layered : Layered block
  pub evaluable : Evaluable block
  -- a rule input reads nothing, and a wildcard has no attributes
  pub plain : (j : ℕ) → is_rule_input (fixed_of block) j ≡ true → source_inputs (fixed_of block) j ≡ []
  pub bare : (j : ℕ) → (source_of (fixed_of block) j).kind ≡ kind_empty → (source_of (fixed_of block) j).attributes ≡ []
  -- an attribute of vertex j accesses lower vertices only
  pub below : (j i : ℕ) → j < source_count block → i < length (source_of (fixed_of block) j).attributes
      → accesses_below j (get_or (source_of (fixed_of block) j).attributes i anything) ≡ true

pub record Setting (graph rule demanded : List ℕ) : Type 0 where
  pub readable : ReadableGraph graph
  pub closed : Closed graph
  pub matchable : Matchable rule
  -- so how often a slot is named is read from its record
  pub counts : TrueCounts graph
  pub demands : (length demanded ≡ side_capacity) × ((j : ℕ) → j < source_count rule → get_or demanded j 0 ≡ demand_of (fixed_of rule) j)

-- a slot that is looked at
pub record LookReady (graph : List ℕ) (v : ℕ) : Type 0 where
  pub readable : ReadableGraph graph
  pub counts : TrueCounts graph
  pub slot : v < slot_count graph
