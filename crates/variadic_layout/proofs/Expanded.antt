-- The layout stands for the fixed rule for n: with the terms of its nodes, its rule is the expansion, and it is readable.
-- Assumes nothing.
use mathlib.Core.Path.{◌≡◌, refl, sym, ap, ap₂, ◌∙◌, subst}
use mathlib.Core.Bool.{true, false, cond}
use mathlib.Core.List.{List, map, Memᴰ}
use mathlib.Core.Logic.{⊎_elim}
use Prim.Native.Nat.{ℕ, zero, suc, ◌+◌, ◌-◌, ◌*◌, ◌<◌, ◌≤◌}
use native.Mathlib.Nat.{zero-add, sub-zero, mul-le-mul}
use native.Mathlib.Omega.{arith}
use borrow.Author.Tests.{lt-ltb, le-ltb, ltb-true, ltb-false}
use lib.Dec.{eqb, ltb}
use lib.ListN.{length, get_or}
use Rattle.definitions.specs.Lists.{tabulate, position}
use Rattle.definitions.specs.Fields.{byte_at}
use Rattle.definitions.specs.Rule.{target_base, source_count, target_count, rule_output_count, node_count, vertex_at, Origin, given, made, origin_by, origin_of, Pattern, Rule, attribute_in, pattern_from, rule_by, rule_of, wildcard, source_of, target_of}
use Rattle.definitions.specs.Variadic.{VariadicRule, copy, original, copy_index, source_copy, origin_copy, fields, source_names, target_names, source_number, numbered, copied, expansion}
use Rattle.definitions.specs.VariadicBlock.{field_limit, expanded_limit, unmarked, variadic_of}
use Rattle.laws.proofs.Lists.{decided, length-tabulate, get_or_tabulate}
use Rattle.laws.proofs.Members.{mem-at}
use Rattle.rule_fields.specs.Fixed.{is_expanded, split_in, origin_in, fixed_node_limit, nodes_in, attribute_node, attribute_of_fixed, fixed_of}
use Rattle.rule_fields.specs.Layout.{WholeRule, ReadableRule}
use Rattle.variadic_order.specs.Sides.{side_copy, field_count, field_place, field_index}
use Rattle.variadic_layout.specs.Bytes.{place_number, header_bytes}
use Rattle.variadic_layout.specs.Written.{BlockLayout, CopyOf}
use Rattle.variadic_layout.specs.Laid.{sources_of, targets_of, input_number, target_number, source_output, target_output, LaidOut, TermsIn, InputsNumbered}
use Rattle.variadic_layout.proofs.Bytes.{place_input, place_own, output_used, field_is}
use Rattle.variadic_layout.proofs.Inside.{Inside, source-inside, target-inside, inside-copy}
use Rattle.variadic_layout.proofs.Heads.{header-sources, header_targets, header-outputs, header_expanded, header_nodes}
use Rattle.variadic_layout.proofs.Rows.{tabulate_same, tabulate_list, map-tabulate, field_row}
use Rattle.variadic_layout.proofs.Patterns.{few_inputs_lem, few_attributes_lem, node-inside, pattern_of}

rule_same : {source source' : List (Pattern ℕ)} {target target' : List (Pattern Origin)} {outputs outputs' : List ℕ} {places places' : List Origin}
    → source ≡ source' → target ≡ target' → outputs ≡ outputs' → places ≡ places'
    → ◌≡◌ {A = Rule} record { source = source; target = target; source_outputs = outputs; target_outputs = places }
    record { source = source'; target = target'; source_outputs = outputs'; target_outputs = places' }
rule_same e f g h = rw (e, f, g, h) refl

-- ---- the block's patterns

module _ (block : List ℕ) where
  abbrev r : VariadicRule
  r = variadic_of block

  source-block : (v : ℕ) → v < source_count block
      → source_of r.plain v ≡ unmarked (pattern_from (λ p. p) (attribute_in block (0 + v)) block (vertex_at (0 + v)))
  unfolding variadic_of source_of rule_of rule_by
  source-block v l =
      let pattern : ℕ → Pattern ℕ = λ j. pattern_from (λ p. p) (attribute_in block j) block (vertex_at j) in
      ap (λ (ps : List (Pattern ℕ)). get_or ps v wildcard) (map-tabulate unmarked (source_count block) pattern)
      ∙ get_or_tabulate (source_count block) (λ j. unmarked (pattern j)) v wildcard l ∙ ap (λ (j : ℕ). unmarked (pattern j)) (sym (zero-add v))

  target-block : (v : ℕ) → v < target_count block
      → target_of r.plain v ≡ unmarked (pattern_from origin_of (attribute_in block (source_count block + v)) block (vertex_at (source_count block + v)))
  unfolding variadic_of target_of rule_of rule_by
  target-block v l =
      let pattern : ℕ → Pattern Origin = λ t. pattern_from origin_of (attribute_in block (source_count block + t)) block (vertex_at (source_count block + t)) in
      ap (λ (ps : List (Pattern Origin)). get_or ps v wildcard) (map-tabulate unmarked (target_count block) pattern)
      ∙ get_or_tabulate (target_count block) (λ t. unmarked (pattern t)) v wildcard l

  -- ---- names

  module _ (n : ℕ) where
    source-copy : (i p : ℕ) → side_copy block 0 i p ≡ source_copy r n i p
    unfolding side_copy source_copy variadic_of
    source-copy i p = rw (zero-add p) refl

    source_name : (i p : ℕ) → place_number block 0 0 0 (input_number block n) (input_number block n) i p ≡ source_number r n (source_copy r n i p)
    unfolding source_number
    source_name i p =
        place_own block 0 0 0 (input_number block n) (input_number block n) i p (omega arith) ∙ zero-add (input_number block n (side_copy block 0 i (p - 0)))
        ∙ ap (λ (k : ℕ). input_number block n (side_copy block 0 i k)) (sub-zero p) ∙ ap (input_number block n) (source-copy i p)

    target-copy : (i u : ℕ) → side_copy block (source_count block) i u ≡ cond (r.target_template u) (copy u i) u
    unfolding side_copy variadic_of
    target-copy i u = refl

    target_name : (laid : List ℕ) → is_expanded laid ≡ true → (i p : ℕ) → (p < target_base → source_number r n (source_copy r n i p) < expanded_limit)
        → origin_in laid (place_number block (source_count block) target_base expanded_limit (input_number block n) (target_number block n) i p)
        ≡ numbered r n (origin_copy r n i (origin_of p))
    unfolding split_in origin_by origin_copy numbered source_number
    target_name laid expanded i p below = ⊎_elim
        (λ (t : ltb p target_base ≡ true).
        let inside : p < target_base = ltb-true p target_base t in
        let number : place_number block (source_count block) target_base expanded_limit (input_number block n) (target_number block n) i p
        ≡ position (source_copy r n i p) (sources_of block n) =
        place_input block (source_count block) target_base expanded_limit (input_number block n) (target_number block n) i p inside
        ∙ ap (input_number block n) (source-copy i p) in
        rw (expanded, t, number, lt-ltb (position (source_copy r n i p) (sources_of block n)) expanded_limit (below inside)) refl)
        (λ (t : ltb p target_base ≡ false).
        let from : target_base ≤ p = ltb-false p target_base t in
        let place = target_number block n (side_copy block (source_count block) i (p - target_base)) in
        let number : place_number block (source_count block) target_base expanded_limit (input_number block n) (target_number block n) i p
        ≡ expanded_limit + place =
        place_own block (source_count block) target_base expanded_limit (input_number block n) (target_number block n) i p from in
        let back : expanded_limit + place - expanded_limit ≡ place = omega arith in
        rw (expanded, t, number, le-ltb (expanded_limit + place) expanded_limit (omega arith), back, target-copy i (p - target_base)) refl)
        (decided (ltb p target_base))

    -- an output has index 0, and is the same with it
    source_zero : (v : ℕ) → source_copy r n 0 v ≡ v
    unfolding source_copy
    source_zero v =
        ⊎_elim (λ (t : r.source_template v ≡ true). rw t (omega arith)) (λ (t : r.source_template v ≡ false). rw t refl) (decided (r.source_template v))

    origin_zero : (o : Origin) → origin_copy r n 0 o ≡ o
    unfolding origin_copy
    origin_zero (given j) = ap given (source_zero j)
    origin_zero (made t) =
        ⊎_elim (λ (e : r.target_template t ≡ true). rw e (ap made (omega arith))) (λ (e : r.target_template t ≡ false). rw e refl)
        (decided (r.target_template t))

module _ (block : List ℕ) (n : ℕ) (layout : BlockLayout block) (some : 1 ≤ n) (few : n ≤ field_limit) where
  -- what a copy of the target names, field by field
  pub target_row : (c : ℕ) → Inside (target_count block) n c
      → target_names (r block) n c ≡ tabulate (field_count block (source_count block) target_base (byte_at block 15) n c)
      (λ i. origin_copy (r block) n (field_index block (source_count block) target_base (byte_at block 15) n c i)
      (origin_of (field_place block (source_count block) target_base (byte_at block 15) n c i)))
  unfolding target_names variadic_of unmarked pattern_from
  target_row c here =
      ap (λ (p : Pattern Origin). fields (r block) n (eqb c (byte_at block 15)) (origin_copy (r block) n) (copy_index c) p.inputs)
      (target-block block (original c) here.vertex)
      ∙ field_row (inside-copy block n layout some few layout.target c here) (r block) (origin_copy (r block) n) origin_of

-- ---- the layout

module _ (block : List ℕ) (n : ℕ) (laid : List ℕ) (layout : BlockLayout block) (some : 1 ≤ n) (few : n ≤ field_limit) (l : LaidOut block n laid) where
  expanded : is_expanded laid ≡ true
  expanded = header_expanded block n laid l.header

  sources : source_count laid ≡ length (sources_of block n)
  sources = header-sources block n laid l.header

  targets : target_count laid ≡ length (targets_of block n)
  targets = header_targets block n laid l.header

  outputs : rule_output_count laid ≡ rule_output_count block
  outputs = header-outputs block n laid l.header

  nodes : nodes_in laid ≡ node_count block * (n + 1)
  nodes = header_nodes block n laid l.header

  few_nodes_lem : node_count block * (n + 1) ≤ fixed_node_limit
  few_nodes_lem =
      let indices : n + 1 ≤ field_limit + 1 = omega arith in
      mul-le-mul layout.source.few_nodes indices

  -- ---- its vertices are copies

  abbrev source_at : ℕ → ℕ
  source_at j = get_or (sources_of block n) j 0

  abbrev target_at : ℕ → ℕ
  target_at t = get_or (targets_of block n) t 0

  source_in : (j : ℕ) → j < length (sources_of block n) → Inside (source_count block) n (source_at j)
  source_in j k = source-inside block n layout some few (source_at j) (mem-at (sources_of block n) j 0 k)

  target_in : (t : ℕ) → t < length (targets_of block n) → Inside (target_count block) n (target_at t)
  target_in t k = target-inside block n layout some few (target_at t) (mem-at (targets_of block n) t 0 k)

  copy-source : (j : ℕ) → j < length (sources_of block n) → CopyOf block 0 0 (byte_at block 14) n (source_at j)
  copy-source j k = inside-copy block n layout some few layout.source (source_at j) (source_in j k)

  copy-target : (t : ℕ) → t < length (targets_of block n) → CopyOf block (source_count block) target_base (byte_at block 15) n (target_at t)
  copy-target t k = inside-copy block n layout some few layout.target (target_at t) (target_in t k)

  -- ---- patterns

  module _ (terms : TermsIn block n laid) where
    source-pattern : (j : ℕ) → j < length (sources_of block n)
        → pattern_from (λ p. p) (attribute_of_fixed laid j) laid (vertex_at j)
        ≡ copied (r block) n (source_of (r block).plain (original (source_at j))) (source_at j)
        (map (source_number (r block) n) (source_names (r block) n (source_at j)))
    unfolding source_names variadic_of
    source-pattern j k =
        let c = source_at j in
        let input = input_number block n in
        pattern_of block laid n 0 0 0 (byte_at block 14) j c input input (copy-source j k) (source_in j k).index expanded nodes
        (λ b m. l.source_records j b k m) (λ b m. l.source_table j b k m) (source_copy (r block) n) (source_number (r block) n) (λ p. p) (λ p. p)
        (λ i m. sym (field_is block 0 0 0 input input (byte_at block 14) n c i)
        ∙ source_name block n (field_index block 0 0 (byte_at block 14) n c i) (field_place block 0 0 (byte_at block 14) n c i))
        terms
        ∙ ap (λ (p : Pattern ℕ). copied (r block) n p c
        (map (source_number (r block) n) (fields (r block) n (eqb c (byte_at block 14)) (source_copy (r block) n) (copy_index c) p.inputs)))
        (sym (source-block block (original c) (source_in j k).vertex))

    module _ (inputs : InputsNumbered block n) where
      abbrev first : ℕ
      first = source_count block

      abbrev tuple : ℕ
      tuple = byte_at block 15

      -- a rule input that field i of copy c names is among what the copy names
      named_input : (t i : ℕ) → (k : t < length (targets_of block n)) → i < field_count block first target_base tuple n (target_at t)
          → field_place block first target_base tuple n (target_at t) i < target_base
          → source_number (r block) n
          (source_copy (r block) n (field_index block first target_base tuple n (target_at t) i) (field_place block first target_base tuple n (target_at t) i))
          < expanded_limit
      unfolding origin_copy origin_by
      named_input t i k m below =
          let c = target_at t in
          let place = field_place block first target_base tuple n c i in
          let size = field_count block first target_base tuple n c in
          let names : ℕ → Origin = λ i. origin_copy (r block) n (field_index block first target_base tuple n c i) (origin_of (field_place block first target_base tuple n c i)) in
          let row : target_names (r block) n c ≡ tabulate size names = target_row block n layout some few c (target_in t k) in
          let here : get_or (tabulate size names) i (made 0) ≡ given (source_copy (r block) n (field_index block first target_base tuple n c i) place) =
          get_or_tabulate size names i (made 0) m ∙ rw (lt-ltb place target_base below) refl in
          inputs.fields c _ (mem-at (targets_of block n) t 0 k)
          (subst (λ (o : Origin). Memᴰ o (target_names (r block) n c)) here
          (subst (λ (os : List Origin). Memᴰ (get_or (tabulate size names) i (made 0)) os) (sym row)
          (mem-at (tabulate size names) i (made 0) (rw (length-tabulate size names) m))))

      target-pattern : (t : ℕ) → t < length (targets_of block n)
          → pattern_from (origin_in laid) (attribute_of_fixed laid (length (sources_of block n) + t)) laid (vertex_at (length (sources_of block n) + t))
          ≡ copied (r block) n (target_of (r block).plain (original (target_at t))) (target_at t)
          (map (numbered (r block) n) (target_names (r block) n (target_at t)))
      unfolding target_names variadic_of
      target-pattern t k =
          let c = target_at t in
          let input = input_number block n in
          let own = target_number block n in
          pattern_of block laid n first target_base expanded_limit tuple (length (sources_of block n) + t) c input own (copy-target t k)
          (target_in t k).index expanded nodes (λ b m. l.target_records t b k m) (λ b m. l.target_table t b k m) (origin_copy (r block) n)
          (numbered (r block) n) origin_of (origin_in laid)
          (λ i m. ap (origin_in laid) (sym (field_is block first target_base expanded_limit input own tuple n c i))
          ∙ target_name block n laid expanded (field_index block first target_base tuple n c i) (field_place block first target_base tuple n c i)
          (named_input t i k m))
          terms
          ∙ ap (λ (p : Pattern Origin). copied (r block) n p c
          (map (numbered (r block) n) (fields (r block) n (eqb c tuple) (origin_copy (r block) n) (copy_index c) p.inputs)))
          (sym (target-block block (original c) (target_in t k).vertex))

  -- ---- outputs

  source-output-at : (i : ℕ) → i < 2 → byte_at laid (10 + i) ≡ source_output block n i
  unfolding header_bytes
  source-output-at zero k = l.header 10 (omega arith)
  source-output-at (suc zero) k = l.header 11 (omega arith)
  source-output-at (suc (suc i)) k = absurd (omega arith)

  target-output-at : (i : ℕ) → i < 2 → byte_at laid (12 + i) ≡ target_output block n i
  unfolding header_bytes
  target-output-at zero k = l.header 12 (omega arith)
  target-output-at (suc zero) k = l.header 13 (omega arith)
  target-output-at (suc (suc i)) k = absurd (omega arith)

  source-output : (i : ℕ) → i < rule_output_count block → byte_at laid (10 + i) ≡ source_number (r block) n (byte_at block (10 + i))
  source-output i k =
      let input = input_number block n in
      source-output-at i (omega (arith, layout.source_outputs.count)) ∙ output_used block 0 0 0 input input 10 i k
      ∙ source_name block n 0 (byte_at block (10 + i)) ∙ ap (source_number (r block) n) (source_zero block n (byte_at block (10 + i)))

  source-outputs : tabulate (rule_output_count laid) (λ i. byte_at laid (10 + i)) ≡ map (source_number (r block) n) (r block).plain.source_outputs
  unfolding variadic_of rule_of rule_by
  source-outputs =
      ap (λ (k : ℕ). tabulate k (λ i. byte_at laid (10 + i))) outputs
      ∙ tabulate_same (rule_output_count block) (λ i. byte_at laid (10 + i)) (λ i. source_number (r block) n (byte_at block (10 + i))) source-output
      ∙ sym (map-tabulate (source_number (r block) n) (rule_output_count block) (λ i. byte_at block (10 + i)))

  module _ (inputs : InputsNumbered block n) where
    output_input : (i : ℕ) → i < rule_output_count block → byte_at block (12 + i) < target_base
        → source_number (r block) n (byte_at block (12 + i)) < expanded_limit
    unfolding variadic_of rule_of rule_by origin_by
    output_input i k below =
        let places : ℕ → Origin = λ i. origin_of (byte_at block (12 + i)) in
        let count = rule_output_count block in
        let here : get_or (tabulate count places) i (made 0) ≡ given (byte_at block (12 + i)) =
        get_or_tabulate count places i (made 0) k ∙ rw (lt-ltb (byte_at block (12 + i)) target_base below) refl in
        inputs.outputs (byte_at block (12 + i))
        (subst (λ (o : Origin). Memᴰ o (tabulate count places)) here
        (mem-at (tabulate count places) i (made 0) (rw (length-tabulate count places) k)))

    target-output : (i : ℕ) → i < rule_output_count block
        → origin_in laid (byte_at laid (12 + i)) ≡ numbered (r block) n (origin_of (byte_at block (12 + i)))
    target-output i k =
        let p = byte_at block (12 + i) in
        ap (origin_in laid) (target-output-at i (omega (arith, layout.target_outputs.count))
        ∙ output_used block (source_count block) target_base expanded_limit (input_number block n) (target_number block n) 12 i k)
        ∙ target_name block n laid expanded 0 p (λ below. rw (source_zero block n p) (output_input i k below))
        ∙ ap (numbered (r block) n) (origin_zero block n (origin_of p))

    target-outputs : tabulate (rule_output_count laid) (λ i. origin_in laid (byte_at laid (12 + i)))
        ≡ map (numbered (r block) n) (r block).plain.target_outputs
    unfolding variadic_of rule_of rule_by
    target-outputs =
        ap (λ (k : ℕ). tabulate k (λ i. origin_in laid (byte_at laid (12 + i)))) outputs
        ∙ tabulate_same (rule_output_count block) (λ i. origin_in laid (byte_at laid (12 + i)))
        (λ i. numbered (r block) n (origin_of (byte_at block (12 + i)))) target-output
        ∙ sym (map-tabulate (numbered (r block) n) (rule_output_count block) (λ i. origin_of (byte_at block (12 + i))))

    -- ---- the rule

    module _ (terms : TermsIn block n laid) where
      source_list : tabulate (source_count laid) (λ j. pattern_from (λ p. p) (attribute_of_fixed laid j) laid (vertex_at j))
          ≡ (expansion (r block) n).source
      unfolding expansion
      source_list =
          ap (λ (k : ℕ). tabulate k (λ j. pattern_from (λ p. p) (attribute_of_fixed laid j) laid (vertex_at j))) sources
          ∙ tabulate_list (sources_of block n) (λ j. pattern_from (λ p. p) (attribute_of_fixed laid j) laid (vertex_at j))
          (λ c. copied (r block) n (source_of (r block).plain (original c)) c (map (source_number (r block) n) (source_names (r block) n c)))
          (source-pattern terms)

      target_list : tabulate (target_count laid)
          (λ t. pattern_from (origin_in laid) (attribute_of_fixed laid (source_count laid + t)) laid (vertex_at (source_count laid + t)))
          ≡ (expansion (r block) n).target
      unfolding expansion
      target_list =
          ap₂ (λ (s k : ℕ). tabulate k (λ t. pattern_from (origin_in laid) (attribute_of_fixed laid (s + t)) laid (vertex_at (s + t)))) sources targets
          ∙ tabulate_list (targets_of block n)
          (λ t. pattern_from (origin_in laid) (attribute_of_fixed laid (length (sources_of block n) + t)) laid (vertex_at (length (sources_of block n) + t)))
          (λ c. copied (r block) n (target_of (r block).plain (original c)) c (map (numbered (r block) n) (target_names (r block) n c)))
          (target-pattern terms inputs)

      -- the layout stands for the fixed rule for n
      pub laid-rule : fixed_of laid ≡ expansion (variadic_of block) n
      unfolding fixed_of rule_by expansion
      laid-rule = rule_same source_list target_list source-outputs target-outputs

  -- ---- and can be read

  whole : WholeRule laid
  unfolding split_in
  whole =
      let size = l.size in
      let s = l.few_sources in
      let t = l.few_targets in
      let k = few_nodes_lem in
      record {
        size = omega (arith, sources, targets, nodes);
        table = λ e. omega (arith, sources, targets, nodes);
        source = omega (arith, sources);
        target = omega (arith, targets);
        split = rw expanded (omega (arith, sources));
        outputs = omega (arith, outputs, layout.source_outputs.count);
        nodes = omega (arith, nodes);
      }

  -- what holds of every source vertex and of every target vertex holds of every vertex
  every : (P : ℕ → Type 0) → ((j : ℕ) → j < length (sources_of block n) → P j)
      → ((t : ℕ) → t < length (targets_of block n) → P (length (sources_of block n) + t)) → (v : ℕ) → v < source_count laid + target_count laid → P v
  every P source target v k =
      let s = length (sources_of block n) in ⊎_elim
      (λ (e : ltb v s ≡ true). source v (ltb-true v s e))
      (λ (e : ltb v s ≡ false).
      let from : s ≤ v = ltb-false v s e in
      let back : s + (v - s) ≡ v = omega arith in
      subst P back (target (v - s) (omega (arith, sources, targets))))
      (decided (ltb v s))

  pub laid_readable : ReadableRule laid
  laid_readable =
      let input = input_number block n in
      let own = target_number block n in
      let s = length (sources_of block n) in
      record {
        whole = whole;
        inputs = every (λ v. byte_at laid (vertex_at v + 2) ≤ 6)
            (λ j k. few_inputs_lem block laid n 0 0 0 (byte_at block 14) j (source_at j) input input (copy-source j k) (source_in j k).index expanded nodes
            (λ b m. l.source_records j b k m) (λ b m. l.source_table j b k m))
            (λ t k. few_inputs_lem block laid n (source_count block) target_base expanded_limit (byte_at block 15) (s + t) (target_at t) input own
            (copy-target t k) (target_in t k).index expanded nodes (λ b m. l.target_records t b k m) (λ b m. l.target_table t b k m));
        attributes = every (λ v. byte_at laid (vertex_at v + 3) ≤ 6)
            (λ j k. few_attributes_lem block laid n 0 0 0 (byte_at block 14) j (source_at j) input input (copy-source j k) (source_in j k).index expanded
            nodes (λ b m. l.source_records j b k m) (λ b m. l.source_table j b k m))
            (λ t k. few_attributes_lem block laid n (source_count block) target_base expanded_limit (byte_at block 15) (s + t) (target_at t) input own
            (copy-target t k) (target_in t k).index expanded nodes (λ b m. l.target_records t b k m) (λ b m. l.target_table t b k m));
      }

  -- every attribute has a node
  pub laid_nodes : (v i : ℕ) → v < source_count laid + target_count laid → i < byte_at laid (vertex_at v + 3) → attribute_node laid v i < nodes_in laid
  laid_nodes v i k =
      let input = input_number block n in
      let own = target_number block n in
      let s = length (sources_of block n) in
      every (λ v. i < byte_at laid (vertex_at v + 3) → attribute_node laid v i < nodes_in laid)
      (λ j k. node-inside block laid n 0 0 0 (byte_at block 14) j (source_at j) input input (copy-source j k) (source_in j k).index expanded nodes
      (λ b m. l.source_records j b k m) (λ b m. l.source_table j b k m) i)
      (λ t k. node-inside block laid n (source_count block) target_base expanded_limit (byte_at block 15) (s + t) (target_at t) input own
      (copy-target t k) (target_in t k).index expanded nodes (λ b m. l.target_records t b k m) (λ b m. l.target_table t b k m) i)
      v k
