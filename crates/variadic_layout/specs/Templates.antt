-- Where the target of a block names templates, once the faults 30 to 33 are excluded.
-- Assumes nothing.
use Rattle.std.specs.Prelude.{◌≡◌, true, false, List, ◌⊎◌, ℕ, ◌+◌, ◌-◌, ◌<◌, ◌≤◌}
use Rattle.definitions.specs.Fields.{byte_at}
use Rattle.definitions.specs.Rule.{target_base, source_count, target_count, rule_output_count}
use Rattle.definitions.specs.VariadicBlock.{marked}
use Rattle.variadic_order.specs.Sides.{place_count, place_of}

module _ (block : List ℕ) where
  -- target vertex t may name templates: it is the named Tuple, or a template
  abbrev pub NamesTemplates : ℕ → Type 0
  NamesTemplates t = (t ≡ byte_at block 15) ⊎ (marked block (source_count block + t) ≡ true)

  -- the number in place i of target vertex t
  abbrev pub target_place : ℕ → ℕ → ℕ
  target_place t i = place_of block (source_count block) t i

pub record TargetTemplates (block : List ℕ) : Type 0 where
  pub inputs : (t i : ℕ) → t < target_count block → i < place_count block (source_count block) t → target_place block t i < target_base
      → marked block (target_place block t i) ≡ true → NamesTemplates block t
  pub vertices : (t i : ℕ) → t < target_count block → i < place_count block (source_count block) t → target_base ≤ target_place block t i
      → marked block (source_count block + (target_place block t i - target_base)) ≡ true → NamesTemplates block t
  pub input_outputs : (i : ℕ) → i < rule_output_count block → byte_at block (12 + i) < target_base → marked block (byte_at block (12 + i)) ≡ false
  pub vertex_outputs : (i : ℕ) → i < rule_output_count block → target_base ≤ byte_at block (12 + i)
      → marked block (source_count block + (byte_at block (12 + i) - target_base)) ≡ false
