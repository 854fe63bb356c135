-- A block without the faults 30 to 34 is laid out as the writers ask, and its target names templates as the numbers of rule inputs ask.
-- Assumes nothing.
use mathlib.Core.Path.{◌≡◌, refl, sym, ap, subst, ◌∙◌}
use mathlib.Core.Bool.{Bool, true, false, not, ◌||◌, and-false}
use mathlib.Core.List.{List, Memᴰ}
use mathlib.Core.Logic.{inl, inr, ⊎_elim}
use Prim.Native.Nat.{ℕ, ◌+◌, ◌-◌, ◌%◌, ◌<◌, ◌≤◌}
use native.Mathlib.Omega.{arith}
use borrow.Author.Tests.{leb-true, lt-ltb, le-ltb, ltb-true, eqb-true, eq-eqb, not-true}
use lib.Dec.{eqb, ltb, leb}
use lib.ListN.{length, length-map}
use Rattle.definitions.specs.Lists.{all, any, tabulate}
use Rattle.definitions.specs.Fields.{byte_at}
use Rattle.definitions.specs.Operators.{shape_fits}
use Rattle.definitions.specs.Rule.{side_limit, target_base, node_limit, source_count, target_count, rule_output_count, node_count, vertex_at, node_at, Origin, given, made, origin_by, origin_of, rule_by, rule_of, target_of, source_inputs, rule_sizes_fit, origin_fits, source_inputs_fit, target_inputs_fit, outputs_fit, use_fits}
use Rattle.definitions.specs.Variadic.{VariadicRule}
use Rattle.definitions.specs.VariadicBlock.{template_mark, no_tuple, marked, unmarked, variadic_of, variadic_header_fits, marked_pattern_fits, origin_template, templates_fit, source_templates_fit, target_templates_fit, shared_outputs, variadic_use_fits}
use Rattle.laws.proofs.Lists.{decided, true_not_false, fails, needed, length-tabulate, get_or_tabulate, all-member, any-member}
use Rattle.laws.proofs.Members.{mem-at}
use Rattle.laws.proofs.Operators.{few_attributes_lem}
use Rattle.laws.proofs.Rule.{input_inside, length-source, use_inside}
use Rattle.variadic_order.specs.Order.{copy_numbers}
use Rattle.variadic_order.specs.Sides.{place_count, place_of, SideLayout}
use Rattle.variadic_order.proofs.Sides.{source-inputs, target-inputs}
use Rattle.variadic_order.proofs.Layouts.{source_layout, target_layout, source-output_layout, target-output_layout}
use Rattle.variadic_layout.specs.Written.{BlockLayout}
use Rattle.variadic_layout.specs.Templates.{NamesTemplates, target_place, TargetTemplates}

-- an element of a list that is given by its elements' numbers
listed : {A : Type 0} (m : ℕ) (f : ℕ → A) (i : ℕ) → i < m → Memᴰ (f i) (tabulate m f)
listed m f i l =
    subst (λ x. Memᴰ x (tabulate m f)) (get_or_tabulate m f i (f i) l) (mem-at (tabulate m f) i (f i) (rw (length-tabulate m f) l))

module _ (block : List ℕ) (header : variadic_header_fits block ≡ true)
    (patterns : (v : ℕ) → v < source_count block + target_count block → marked_pattern_fits block (vertex_at v) ≡ true)
    (lower_inputs : (j : ℕ) → j < source_count block → source_inputs_fit (variadic_of block).plain j ≡ true)
    (named_inputs : (t : ℕ) → t < target_count block → target_inputs_fit (variadic_of block).plain t ≡ true)
    (source_templates : (j : ℕ) → j < source_count block → source_templates_fit (variadic_of block) j ≡ true)
    (target_templates : (t : ℕ) → t < target_count block → target_templates_fit (variadic_of block) t ≡ true)
    (outputs : outputs_fit (variadic_of block).plain ≡ true) where
  abbrev r : VariadicRule
  r = variadic_of block

  abbrev s : ℕ
  s = source_count block

  sources : length r.plain.source ≡ s
  unfolding variadic_of
  sources = length-map (rule_of block).source unmarked ∙ length-source block

  source_side : SideLayout block 0 0 s
  source_side = source_layout block header patterns lower_inputs

  target_side : SideLayout block s target_base (target_count block)
  target_side = target_layout block header patterns named_inputs

  nodes_inside : node_at block (node_count block) ≤ length block
  unfolding variadic_header_fits
  nodes_inside =
      let whole : length block ≡ node_at block (node_count block) =
      eqb-true (length block) (node_at block (node_count block)) (needed (eqb (length block) (node_at block (node_count block))) header (λ f. simp f)) in
      omega arith

  few_nodes_lem : node_count block ≤ node_limit
  unfolding variadic_header_fits rule_sizes_fit
  few_nodes_lem = leb-true (node_count block) node_limit (needed (leb (node_count block) node_limit) header (λ f. simp (f, and-false)))

  source-tuple : byte_at block 14 < s
  unfolding variadic_header_fits
  source-tuple = ltb-true (byte_at block 14) s (needed (ltb (byte_at block 14) s) header (λ f. simp (f, and-false)))

  -- a number of a copy names a target vertex, if it is in byte 15
  target-tuple : byte_at block 15 < copy_numbers → byte_at block 15 < target_count block
  unfolding variadic_header_fits
  target-tuple l =
      let either = needed (eqb (byte_at block 15) no_tuple || ltb (byte_at block 15) (target_count block)) header (λ f. simp (f, and-false)) in
      ltb-true (byte_at block 15) (target_count block) (⊎_elim
      (λ (t : eqb (byte_at block 15) no_tuple ≡ true). absurd (omega (arith, eqb-true (byte_at block 15) no_tuple t)))
      (λ (t : eqb (byte_at block 15) no_tuple ≡ false). rw t at either)
      (decided (eqb (byte_at block 15) no_tuple)))

  few_record : (v : ℕ) → v < s + target_count block → byte_at block (vertex_at v + 3) ≤ 6
  unfolding marked_pattern_fits
  few_record v l =
      let at = vertex_at v in
      let kind = byte_at block at % template_mark in
      few_attributes_lem kind (byte_at block (at + 1)) (byte_at block (at + 2)) (byte_at block (at + 3))
      (needed (shape_fits kind (byte_at block (at + 1)) (byte_at block (at + 2)) (byte_at block (at + 3))) (patterns v l) (λ f. simp f))

  -- ---- the named Tuples have one place

  source_one : place_count block 0 (byte_at block 14) ≤ 1
  unfolding source_templates_fit templates_fit variadic_of
  source_one =
      let t = byte_at block 14 in
      let fits = simp (eq-eqb t t refl) at (source_templates t source-tuple) in
      let one : length (source_inputs r.plain t) ≡ 1 =
      eqb-true _ _ (needed (eqb (length (source_inputs r.plain t)) 1) fits (λ f. simp (f, and-false))) in
      omega (arith, sym (ap length (source-inputs block t source-tuple) ∙ length-tabulate (place_count block 0 t) (λ i. place_of block 0 t i)))

  target_one : byte_at block 15 < target_count block → place_count block s (byte_at block 15) ≤ 1
  unfolding target_templates_fit templates_fit variadic_of
  target_one l =
      let t = byte_at block 15 in
      let fits = simp (eq-eqb t t refl) at (target_templates t l) in
      let one : length (target_of r.plain t).inputs ≡ 1 =
      eqb-true _ _ (needed (eqb (length (target_of r.plain t).inputs) 1) fits (λ f. simp (f, and-false))) in
      omega (arith, sym (ap length (target-inputs block t l) ∙ length-tabulate (place_count block s t) (λ i. origin_of (place_of block s t i))))

  -- ---- places of the target that name rule inputs

  given_place : (p : ℕ) → p < target_base → origin_of p ≡ given p
  unfolding origin_by
  given_place p l = rw (lt-ltb p target_base l) refl

  made-place : (p : ℕ) → target_base ≤ p → origin_of p ≡ made (p - target_base)
  unfolding origin_by
  made-place p l = rw (le-ltb p target_base l) refl

  given_inside : (t p : ℕ) → p < target_base → origin_fits r.plain t (origin_of p) ≡ true → p < s
  unfolding origin_fits
  given_inside t p l h = omega (arith, input_inside r.plain p (rw (given_place p l) at h), sources)

  target-listed : (t i : ℕ) → t < target_count block → i < place_count block s t → Memᴰ (origin_of (target_place block t i)) (target_of r.plain t).inputs
  target-listed t i l k = rw (target-inputs block t l) (listed (place_count block s t) (λ j. origin_of (place_of block s t j)) i k)

  target_given : (t i : ℕ) → t < target_count block → i < place_count block s t → target_place block t i < target_base → target_place block t i < s
  unfolding target_inputs_fit
  target_given t i l k below =
      let fits = needed (all (origin_fits r.plain t) (target_of r.plain t).inputs) (named_inputs t l) (λ f. simp (f, and-false)) in
      given_inside t (target_place block t i) below (all-member (origin_fits r.plain t) fits (target-listed t i l k))

  output-listed : (i : ℕ) → i < rule_output_count block → Memᴰ (origin_of (byte_at block (12 + i))) r.plain.target_outputs
  unfolding variadic_of rule_of rule_by
  output-listed i l = listed (rule_output_count block) (λ j. origin_of (byte_at block (12 + j))) i l

  output_given : (i : ℕ) → i < rule_output_count block → byte_at block (12 + i) < target_base → byte_at block (12 + i) < s
  unfolding outputs_fit
  output_given i l below =
      let count = length r.plain.target in
      let fits = needed (all (origin_fits r.plain count) r.plain.target_outputs) outputs (λ f. simp (f, and-false)) in
      given_inside count (byte_at block (12 + i)) below (all-member (origin_fits r.plain count) fits (output-listed i l))

  -- ---- the layout

  module _ (uses : (v i : ℕ) → v < s + target_count block → i < byte_at block (vertex_at v + 3)
      → variadic_use_fits block v (byte_at block (vertex_at v + 10 + i)) ≡ true) where
    use_below : (v i : ℕ) → v < s + target_count block → i < byte_at block (vertex_at v + 3) → byte_at block (vertex_at v + (10 + i)) < node_count block
    unfolding variadic_use_fits
    use_below v i l k =
        let at : vertex_at v + 10 + i ≡ vertex_at v + (10 + i) = omega arith in
        let node = byte_at block (vertex_at v + 10 + i) in
        subst (λ (x : ℕ). byte_at block x < node_count block) at (use_inside block v node (needed (use_fits block v node) (uses v i l k) (λ f. simp f)))

    pub block_layout : BlockLayout block
    block_layout = record {
      source = record {
        side = source_side;
        inputs = λ u i l k z. absurd (omega arith);
        sources = omega (arith, source_side.size);
        few_sources = source_side.few;
        one_field = λ l.
            let same : byte_at block 14 % side_limit ≡ byte_at block 14 = omega (arith, source-tuple, source_side.few) in
            rw same source_one;
        attributes = λ u l. few_record (0 + u) (omega arith);
        uses = λ u i l k. use_below (0 + u) i (omega arith) k;
        nodes = nodes_inside;
        few_nodes = few_nodes_lem;
      };
      target = record {
        side = target_side;
        inputs = target_given;
        sources = omega (arith, source_side.size);
        few_sources = source_side.few;
        one_field = λ l.
            let inside = target-tuple l in
            let same : byte_at block 15 % side_limit ≡ byte_at block 15 = omega (arith, target_side.few) in
            rw same (target_one inside);
        attributes = λ u l. few_record (s + u) (omega arith);
        uses = λ u i l k. use_below (s + u) i (omega arith) k;
        nodes = nodes_inside;
        few_nodes = few_nodes_lem;
      };
      source_outputs = source-output_layout block header;
      target_outputs = target-output_layout block header outputs;
      inputs = output_given;
    }

  -- ---- templates of the target

  -- a test that fails for all elements fails for each
  none_in : {A : Type 0} (p : A → Bool) {x : A} (xs : List A) → any p xs ≡ false → Memᴰ x xs → p x ≡ false
  none_in p xs h m = fails (λ t. true_not_false (any-member p m t) h)

  names_templates : (t : ℕ) (o : Origin) → t < target_count block → Memᴰ o (target_of r.plain t).inputs → origin_template r o ≡ true
      → NamesTemplates block t
  unfolding target_templates_fit templates_fit variadic_of
  names_templates t o l m k =
      let fits = target_templates t l in ⊎_elim
      (λ (h : eqb t (byte_at block 15) ≡ true). inl (eqb-true t (byte_at block 15) h))
      (λ (h : eqb t (byte_at block 15) ≡ false). ⊎_elim
      (λ (e : marked block (s + t) ≡ true). inr e)
      (λ (e : marked block (s + t) ≡ false).
      absurd (true_not_false k (none_in (origin_template r) (target_of r.plain t).inputs (not-true _ (simp (h, e) at fits)) m)))
      (decided (marked block (s + t))))
      (decided (eqb t (byte_at block 15)))

  input_template : (p : ℕ) → p < target_base → origin_template r (origin_of p) ≡ marked block p
  unfolding origin_template variadic_of
  input_template p l = rw (given_place p l) refl

  vertex_template : (p : ℕ) → target_base ≤ p → origin_template r (origin_of p) ≡ marked block (s + (p - target_base))
  unfolding origin_template variadic_of
  vertex_template p l = rw (made-place p l) refl

  module _ (shared : shared_outputs r ≡ true) where
    shared_output : (i : ℕ) → i < rule_output_count block → origin_template r (origin_of (byte_at block (12 + i))) ≡ false
    unfolding shared_outputs
    shared_output i l =
        none_in (origin_template r) r.plain.target_outputs
        (not-true _ (needed (not (any (origin_template r) r.plain.target_outputs)) shared (λ f. simp (f, and-false)))) (output-listed i l)

    pub target_templates_lem : TargetTemplates block
    target_templates_lem = record {
      inputs = λ t i l k below m.
          names_templates t (origin_of (target_place block t i)) l (target-listed t i l k) (input_template (target_place block t i) below ∙ m);
      vertices = λ t i l k from m.
          names_templates t (origin_of (target_place block t i)) l (target-listed t i l k) (vertex_template (target_place block t i) from ∙ m);
      input_outputs = λ i l below. sym (input_template (byte_at block (12 + i)) below) ∙ shared_output i l;
      vertex_outputs = λ i l from. sym (vertex_template (byte_at block (12 + i)) from) ∙ shared_output i l;
    }
