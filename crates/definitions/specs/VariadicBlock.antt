-- Request 8/13: "a variadic rule, version 2 of the rule block". The variadic rule of a block, its faults, and the fixed rules for which a block
-- of either version stands.
-- Assumes nothing.
use Rattle.std.specs.Prelude.{◌≡◌, Bool, true, false, cond, not, ◌&&◌, ◌||◌, List, [], ◌∷◌, map, ℕ, ◌+◌, ◌-◌, ◌%◌, ◌<◌, ◌≤◌, eqb, ltb, leb, length}
use Rattle.definitions.specs.Lists.{all_below, lowest, any, range}
use Rattle.definitions.specs.Fields.{byte_at, u16_at, filled, mark_fits}
use Rattle.definitions.specs.Operators.{kind_tuple, shape_fits}
use Rattle.definitions.specs.Reply.{Reply, bad_rule_header, bad_rule_record, bad_rule_order, bad_rule_outputs, bad_rule_expression, bad_expansion, Fault, fault, flag, place, judged}
use Rattle.definitions.specs.Rule.{side_limit, rule_letter, source_count, target_count, node_count, vertex_at, node_at, Expression, anything, constant, access, apply, index, sum, Origin, given, made, form_remainder, form_index, form_sum, Pattern, Rule, node_form, node_left, node_right, expression_of, rule_of, source_of, target_of, rule_sizes_fit, rule_output_places_fit, source_inputs_fit, target_inputs_fit, traversal, out_of_order, outputs_fit, operand_fits, node_fits, use_fits}
use Rattle.definitions.specs.FixedRule.{SoundFixed, sound_fixed}
use Rattle.definitions.specs.Variadic.{VariadicRule, expansion}

abbrev pub variadic_version : ℕ
variadic_version = 2

-- "kind plus 128 marks a template"
abbrev pub template_mark : ℕ
template_mark = 128

-- what byte 15 holds where the target has no named Tuple
abbrev pub no_tuple : ℕ
no_tuple = 255

-- "for each n from 1 to 6, the field count of the Tuple's image"
abbrev pub field_limit : ℕ
field_limit = 6

-- "one fixed rule of up to 64 vertices a side"
abbrev pub expanded_limit : ℕ
expanded_limit = 64

-- "rule bytes 4-5 read 2"; a block that ends before them reads nothing there
unfoldable pub is_variadic : List ℕ → Bool
is_variadic block = leb 6 (length block) && eqb (u16_at block 4) variadic_version

-- ---- the variadic rule of a block

abbrev pub marked : List ℕ → ℕ → Bool
marked block v = leb template_mark (byte_at block (vertex_at v))

unfoldable pub unmarked : {P : Type 0} → Pattern P → Pattern P
unmarked p = record {
  kind = p.kind % template_mark;
  operator = p.operator;
  inputs = p.inputs;
  attributes = p.attributes;
}

-- "header bytes 14-15 name the source and target Tuple"
unfoldable pub variadic_of : List ℕ → VariadicRule
variadic_of block = record {
  plain = record {
    source = map unmarked (rule_of block).source;
    target = map unmarked (rule_of block).target;
    source_outputs = (rule_of block).source_outputs;
    target_outputs = (rule_of block).target_outputs;
  };
  source_template = marked block;
  target_template = λ t. marked block (source_count block + t);
  source_tuple = byte_at block 14;
  target_tuple = byte_at block 15;
}

-- What a sound block stands for: one rule, or "one fixed rule" for each n from 1 to 6. The target of a version 1 rule stands in the
-- block's order, which need not be the visiting order; so it is not said to be its own expansion.
unfoldable pub fixed_rules : List ℕ → List Rule
fixed_rules block =
    cond (is_variadic block) (map (expansion (variadic_of block)) (range 1 (field_limit + 1))) (rule_of block ∷ [])

-- ---- faults, by kind: "It is as version 1, but"

-- byte 14 names a source vertex, byte 15 a target vertex or none: "255: no target one; else at or above S or T, 30"
unfoldable pub variadic_header_fits : List ℕ → Bool
variadic_header_fits block =
    eqb (length block) (node_at block (node_count block))
    && mark_fits block rule_letter
    && is_variadic block
    && rule_sizes_fit side_limit block
    && rule_output_places_fit block
    && ltb (byte_at block 14) (source_count block)
    && (eqb (byte_at block 15) no_tuple || ltb (byte_at block 15) (target_count block))

-- as pattern_fits, with the kind without its mark
unfoldable pub marked_pattern_fits : List ℕ → ℕ → Bool
marked_pattern_fits block at =
    shape_fits (byte_at block at % template_mark) (byte_at block (at + 1)) (byte_at block (at + 2)) (byte_at block (at + 3))
    && filled block (at + 4 + byte_at block (at + 2)) (at + 10) 255
    && filled block (at + 10 + byte_at block (at + 3)) (at + 16) 255

module _ (r : VariadicRule) where
  unfoldable pub origin_template : Origin → Bool
  origin_template (given j) = r.source_template j
  origin_template (made t) = r.target_template t

  -- a named Tuple is "an unmarked Tuple with n 1"; another vertex names a template only where it is one
  unfoldable pub templates_fit : {P : Type 0} → Bool → Bool → (P → Bool) → Pattern P → Bool
  templates_fit is_tuple is_template names p =
      cond is_tuple (not is_template && eqb p.kind kind_tuple && eqb (length p.inputs) 1)
      (is_template || not (any names p.inputs))

  unfoldable pub source_templates_fit : ℕ → Bool
  source_templates_fit j = templates_fit (eqb j r.source_tuple) (r.source_template j) r.source_template (source_of r.plain j)

  unfoldable pub target_templates_fit : ℕ → Bool
  target_templates_fit t = templates_fit (eqb t r.target_tuple) (r.target_template t) origin_template (target_of r.plain t)

  -- no output is a template
  unfoldable pub shared_outputs : Bool
  shared_outputs = not (any r.source_template r.plain.source_outputs) && not (any origin_template r.plain.target_outputs)

  -- the index, or a template, stands in it outside of every sum
  unfoldable pub needs_index : Expression → Bool
  needs_index anything = false
  needs_index (constant z) = false
  needs_index (access v b) = r.source_template v
  needs_index (apply o x y) = needs_index x || needs_index y
  needs_index index = true
  needs_index (sum x) = false

-- vertex v has a bad record, a bad input place or names a template that it may not
unfoldable pub bad_variadic_vertex : List ℕ → ℕ → Bool
bad_variadic_vertex block v =
    let r = variadic_of block in
    not (marked_pattern_fits block (vertex_at v)
    && cond (ltb v (source_count block)) (source_inputs_fit r.plain v && source_templates_fit r v)
    (target_inputs_fit r.plain (v - source_count block) && target_templates_fit r (v - source_count block)))

-- "node forms 8 index, 9 sum of earlier node a", beside those of version 1
unfoldable pub variadic_node_fits : List ℕ → ℕ → Bool
variadic_node_fits block k =
    cond (leb (node_form block k) form_remainder) (node_fits block k)
    (eqb (byte_at block (node_at block k + 3)) 0
    && filled block (node_at block k + 4) (node_at block k + 8) 0
    && eqb (node_right block k) 0
    && cond (eqb (node_form block k) form_index) (eqb (node_left block k) 0)
    (eqb (node_form block k) form_sum && operand_fits block k (node_left block k)))

unfoldable pub bad_variadic_node : List ℕ → ℕ → Bool
bad_variadic_node block k = not (variadic_node_fits block k)

-- as use_fits; and a vertex that is no template uses no expression that needs the index
unfoldable pub variadic_use_fits : List ℕ → ℕ → ℕ → Bool
variadic_use_fits block v k = use_fits block v k && (marked block v || not (needs_index (variadic_of block) (expression_of block k)))

unfoldable pub bad_variadic_use : List ℕ → ℕ → Bool
bad_variadic_use block v =
    not (all_below (λ i. variadic_use_fits block v (byte_at block (vertex_at v + 10 + i))) (byte_at block (vertex_at v + 3)))

-- the fixed rule for n, counted from 1, is not sound
unfoldable pub is_bad_expansion : List ℕ → ℕ → Bool
is_bad_expansion block n = ltb 0 n && not (sound_fixed expanded_limit (expansion (variadic_of block) n))

-- 30 to 34 look at the block as it stands; "35 when an expansion for n up to 6 isn't a sound rule [...], after 34; place the least such n"
unfoldable pub variadic_faults : List ℕ → List Fault
variadic_faults block =
    let vertices = source_count block + target_count block in
    let r = variadic_of block in
    fault bad_rule_header (flag (not (variadic_header_fits block)))
    ∷ fault bad_rule_record (place vertices (lowest (bad_variadic_vertex block) vertices))
    ∷ fault bad_rule_order (place (source_count block) (lowest (out_of_order r.plain) (source_count block)))
    ∷ fault bad_rule_outputs (flag (not (outputs_fit r.plain && shared_outputs r)))
    ∷ fault bad_rule_expression (place (node_count block) (lowest (bad_variadic_node block) (node_count block)))
    ∷ fault bad_rule_expression (place vertices (lowest (bad_variadic_use block) vertices))
    ∷ fault bad_expansion (place (field_limit + 1) (lowest (is_bad_expansion block) (field_limit + 1)))
    ∷ []

-- what checking a version 2 block gives
unfoldable pub variadic_reply : List ℕ → Reply
variadic_reply block = judged (variadic_faults block)

-- ---- a sound variadic rule; it is proved that the reply is done exactly for these

pub record SoundVariadic (block : List ℕ) : Type 0 where
  pub header : variadic_header_fits block ≡ true
  pub patterns : (v : ℕ) → v < source_count block + target_count block → marked_pattern_fits block (vertex_at v) ≡ true
  pub lower_inputs : (j : ℕ) → j < source_count block → source_inputs_fit (variadic_of block).plain j ≡ true
  pub named_inputs : (t : ℕ) → t < target_count block → target_inputs_fit (variadic_of block).plain t ≡ true
  pub source_templates : (j : ℕ) → j < source_count block → source_templates_fit (variadic_of block) j ≡ true
  pub target_templates : (t : ℕ) → t < target_count block → target_templates_fit (variadic_of block) t ≡ true
  pub order : traversal (variadic_of block).plain ≡ range 0 (source_count block)
  pub outputs : outputs_fit (variadic_of block).plain ≡ true
  pub shared : shared_outputs (variadic_of block) ≡ true
  pub nodes : (k : ℕ) → k < node_count block → variadic_node_fits block k ≡ true
  pub uses : (v i : ℕ) → v < source_count block + target_count block → i < byte_at block (vertex_at v + 3)
      → variadic_use_fits block v (byte_at block (vertex_at v + 10 + i)) ≡ true
  pub expansions : (n : ℕ) → 1 ≤ n → n ≤ field_limit → SoundFixed expanded_limit (expansion (variadic_of block) n)
