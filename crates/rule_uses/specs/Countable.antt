-- What counting a rule's own places asks: of the block, and of the array of counts before each part of it.
-- Assumes nothing.
use Rattle.std.specs.Prelude.{List, ℕ, ◌<◌}
use Rattle.definitions.specs.Lists.{total, count}
use Rattle.definitions.specs.Rule.{side_capacity, source_count, Rule, source_inputs}
use Rattle.rule_fields.specs.Fixed.{fixed_of}
use Rattle.laws.specs.Counted.{Counted}
use Rattle.rule_fields.specs.Layout.{ReadableRule, Layered}

-- how many input places of the source vertices below w name source vertex j
abbrev pub places_below : Rule → ℕ → ℕ → ℕ
places_below r w j = total (λ u. count j (source_inputs r u)) w

-- a block whose source inputs name source vertices
pub record CountableRule (block : List ℕ) : Type 0 where
  pub readable : ReadableRule block
  pub layered : Layered block

-- the input places of the source vertices below w are counted, and those of vertex w are next
pub record InputsNext (block : List ℕ) (w : ℕ) (places : List ℕ) : Type 0 where
  pub readable : ReadableRule block
  pub layered : Layered block
  pub vertex : w < source_count block
  pub counted : Counted side_capacity (places_below (fixed_of block) w) places
