-- What a variadic rule's source keeps, once the faults 30 to 33 are excluded.
-- Assumes nothing.
use Rattle.std.specs.Prelude.{◌≡◌, true, false, ◌⊎◌, ℕ, ◌<◌, ◌≤◌, length}
use mathlib.Core.List.{Memᴰ}
use Rattle.definitions.specs.Lists.{member}
use Rattle.definitions.specs.Operators.{kind_tuple}
use Rattle.definitions.specs.Paths.{Reads}
use Rattle.definitions.specs.Rule.{side_limit, source_of, source_inputs}
use Rattle.definitions.specs.Variadic.{VariadicRule}

pub record Templated (r : VariadicRule) : Type 0 where
  pub few : length r.plain.source ≤ side_limit
  pub lower : (j u : ℕ) → Reads (source_inputs r.plain) j u → u < j
  pub read : (v : ℕ) → v < length r.plain.source
      → (member v r.plain.source_outputs ≡ true) ⊎ ((w : ℕ) × Reads (source_inputs r.plain) w v)
  -- a template is named by templates and by the named Tuple
  pub named : (j u : ℕ) → Reads (source_inputs r.plain) j u → r.source_template u ≡ true
      → (j ≡ r.source_tuple) ⊎ (r.source_template j ≡ true)
  pub shared_outputs : (o : ℕ) → Memᴰ o r.plain.source_outputs → r.source_template o ≡ false
  pub tuple_inside : r.source_tuple < length r.plain.source
  pub tuple_shared : r.source_template r.source_tuple ≡ false
  pub tuple_kind : (source_of r.plain r.source_tuple).kind ≡ kind_tuple
  pub tuple_field : length (source_inputs r.plain r.source_tuple) ≡ 1
