-- A sound rule, said of a rule and not of its block: document 01's conditions with the side limit as an argument. So an expansion is judged:
-- "isn't a sound rule, with 64 for 16 and nodes unlimited".
-- Assumes nothing.
use Rattle.std.specs.Prelude.{◌≡◌, Bool, true, false, ◌&&◌, ◌||◌, ℕ, ◌<◌, ◌≤◌, eqb, ltb, leb, length}
use mathlib.Core.List.{List, Memᴰ}
use Rattle.definitions.specs.Lists.{within, all_below, all, all_pairs, range}
use Rattle.definitions.specs.Operators.{shape_fits}
use Rattle.definitions.specs.Graph.{attribute_limit}
use Rattle.definitions.specs.Paths.{Reaches}
use Rattle.definitions.specs.Attributes.{in_range}
use Rattle.definitions.specs.Rule.{rule_output_limit, Expression, anything, constant, access, apply, index, sum, Pattern, Rule, source_of, target_of, source_inputs, origin_fits, source_inputs_fit, target_inputs_fit, traversal, source_outputs_fit, all_named, outputs_fit, accesses_below}

-- the vertex follows the tables
unfoldable pub pattern_shaped : {P : Type 0} → Pattern P → Bool
pattern_shaped p = shape_fits p.kind p.operator (length p.inputs) (length p.attributes)

-- any stands nowhere in the expression, a constant is a 32-bit number, and an access names an attribute place; a fixed rule has no
-- index and no sum
unfoldable pub definite : Expression → Bool
definite anything = false
definite (constant z) = in_range z
definite (access v b) = within 1 b attribute_limit
definite (apply o x y) = definite x && definite y
definite index = false
definite (sum x) = false

unfoldable pub is_any : Expression → Bool
is_any anything = true
is_any (constant z) = false
is_any (access v b) = false
is_any (apply o x y) = false
is_any index = false
is_any (sum x) = false

-- a source vertex has any as a whole attribute, or an expression that accesses lower vertices only
unfoldable pub source_uses_fit : Rule → ℕ → Bool
source_uses_fit r j = all (λ e. is_any e || definite e && accesses_below j e) (source_of r j).attributes

unfoldable pub target_uses_fit : Rule → ℕ → Bool
target_uses_fit r t = all (λ e. definite e && accesses_below (length r.source) e) (target_of r t).attributes

-- ---- the meaning

pub record SoundFixed (limit : ℕ) (r : Rule) : Type 0 where
  pub some_source : 1 ≤ length r.source
  pub few_sources : length r.source ≤ limit
  pub few_targets : length r.target ≤ limit
  pub some_output : 1 ≤ length r.source_outputs
  pub few_outputs : length r.source_outputs ≤ rule_output_limit
  pub same_count : length r.target_outputs ≡ length r.source_outputs
  pub outputs_inside : (o : ℕ) → Memᴰ o r.source_outputs → o < length r.source
  pub source_shapes : (j : ℕ) → j < length r.source → pattern_shaped (source_of r j) ≡ true
  pub target_shapes : (t : ℕ) → t < length r.target → pattern_shaped (target_of r t) ≡ true
  pub lower_inputs : (j : ℕ) → j < length r.source → source_inputs_fit r j ≡ true
  pub named_inputs : (t : ℕ) → t < length r.target → target_inputs_fit r t ≡ true
  pub order : traversal r ≡ range 0 (length r.source)
  pub outputs : source_outputs_fit r ≡ true
  pub connection : (v : ℕ) × (v < length r.source) × ((o : ℕ) → Memᴰ o r.source_outputs → Reaches (source_inputs r) v o)
  pub named_outputs : all (origin_fits r (length r.target)) r.target_outputs ≡ true
  pub names : all_named r ≡ true
  pub source_uses : (j : ℕ) → j < length r.source → source_uses_fit r j ≡ true
  pub target_uses : (t : ℕ) → t < length r.target → target_uses_fit r t ≡ true

-- ---- what computes; it is proved that this is the meaning

unfoldable pub sizes_fit : ℕ → Rule → Bool
sizes_fit limit r =
    within 1 (length r.source) limit
    && leb (length r.target) limit
    && within 1 (length r.source_outputs) rule_output_limit
    && eqb (length r.target_outputs) (length r.source_outputs)
    && all (λ o. ltb o (length r.source)) r.source_outputs

-- the traversal visits the source vertices in order
unfoldable pub in_visiting_order : Rule → Bool
in_visiting_order r = all_pairs eqb (traversal r) (range 0 (length r.source))

unfoldable pub sound_fixed : ℕ → Rule → Bool
sound_fixed limit r =
    sizes_fit limit r
    && all_below (λ j. pattern_shaped (source_of r j) && source_inputs_fit r j) (length r.source)
    && all_below (λ t. pattern_shaped (target_of r t) && target_inputs_fit r t) (length r.target)
    && in_visiting_order r
    && outputs_fit r
    && all_below (source_uses_fit r) (length r.source)
    && all_below (target_uses_fit r) (length r.target)
