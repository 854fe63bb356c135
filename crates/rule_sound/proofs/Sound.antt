-- A sound rule, said of the rule: what computes is the meaning, and a sound block of version 1 stands for one.
-- Assumes nothing.
use mathlib.Core.Path.{◌≡◌, refl, sym, ap, ◌∙◌}
use mathlib.Core.Bool.{Bool, true, false, not, ◌&&◌, ◌||◌, and-false, or-true, false≢true}
use mathlib.Core.List.{List, Memᴰ}
use mathlib.Core.Logic.{⊎_elim}
use Prim.Native.Nat.{ℕ, zero, suc, ◌+◌, ◌-◌, ◌<◌, ◌≤◌}
use native.Mathlib.Nat.{not-suc-le-zero}
use native.Mathlib.Omega.{arith}
use borrow.Author.Tests.{leb-true, le-leb, ltb-true, ltb-false, lt-ltb, eqb-true, eq-eqb, ne_eqb, not-true, le-ltb}
use lib.Dec.{eqb, ltb, leb}
use lib.ListN.{length, get_or}
use Rattle.definitions.specs.Lists.{within, all_below, all, build, range}
use Rattle.definitions.specs.Fields.{byte_at, u32_at, signed}
use Rattle.definitions.specs.Graph.{attribute_limit}
use Rattle.definitions.specs.Paths.{Reads}
use Rattle.definitions.specs.Rule.{side_limit, rule_output_limit, source_count, target_count, node_count, vertex_at, node_at, remainder, Expression, anything, constant, access, apply, index, sum, Rule, operations, node_form, node_left, node_right, node_from, expressions, expression_of, rule_of, source_of, target_of, source_inputs, origin_fits, source_inputs_fit, target_inputs_fit, reaches, source_outputs_fit, connected, all_named, outputs_fit, rule_sizes_fit, rule_header_fits, pattern_fits, operand_fits, node_fits, accesses_below, use_fits, SoundRule, node_by}
use Rattle.laws.proofs.Lists.{decided, fails, and_left, and_right, needed, all-at, all_every, all-member, all_members, all_below_at, all_below_every, any_below-found, any_below_some}
use Rattle.laws.proofs.Builds.{build-at}
use Rattle.laws.proofs.Ranges.{same_lists, same_self}
use Rattle.laws.proofs.Rule.{source-reader, length-source, length-target, length-source-outputs, length-target-outputs, source_kind_at, source-operator-at, source-count-at, source-attributes-at, source_attribute_at, target_kind_at, target-operator-at, target-count-at, target-attributes-at, target_attribute_at, few_sources_lem, few_targets_lem, some_rule-outputs, few_rule-outputs, pattern_shape, use_inside, outputs_below}
use Rattle.numbers.proofs.Laws.{signed_in_range}
use Rattle.rule_connection.proofs.Reached.{reached_path, path_reached}
use Rattle.definitions.specs.FixedRule.{pattern_shaped, definite, is_any, source_uses_fit, target_uses_fit, SoundFixed, sizes_fit, in_visiting_order, sound_fixed}

-- ---- what computes is the meaning

-- inputs are lower
pub lower_of : (r : Rule) → ((j : ℕ) → j < length r.source → source_inputs_fit r j ≡ true)
    → (j u : ℕ) → Reads (source_inputs r) j u → u < j
unfolding source_inputs_fit
lower_of r fits j u m = ltb-true u j (all-member (λ p. ltb p j) (fits j (source-reader r j u m)) m)

module _ (limit : ℕ) (r : Rule) where
  module _ (h : sound_fixed limit r ≡ true) where
    sizes : sizes_fit limit r ≡ true
    unfolding sound_fixed
    sizes = needed (sizes_fit limit r) h (λ f. simp f)

    sources : (j : ℕ) → j < length r.source → (pattern_shaped (source_of r j) && source_inputs_fit r j) ≡ true
    unfolding sound_fixed
    sources j l =
        let p : ℕ → Bool = λ k. pattern_shaped (source_of r k) && source_inputs_fit r k in
        all_below_at p (length r.source) j (needed (all_below p (length r.source)) h (λ f. simp (f, and-false))) l

    targets : (t : ℕ) → t < length r.target → (pattern_shaped (target_of r t) && target_inputs_fit r t) ≡ true
    unfolding sound_fixed
    targets t l =
        let p : ℕ → Bool = λ k. pattern_shaped (target_of r k) && target_inputs_fit r k in
        all_below_at p (length r.target) t (needed (all_below p (length r.target)) h (λ f. simp (f, and-false))) l

    outputs-good : outputs_fit r ≡ true
    unfolding sound_fixed
    outputs-good = needed (outputs_fit r) h (λ f. simp (f, and-false))

    inside : (o : ℕ) → Memᴰ o r.source_outputs → o < length r.source
    unfolding sizes_fit
    inside o m =
        let p : ℕ → Bool = λ x. ltb x (length r.source) in
        ltb-true o (length r.source)
        (all-member p (needed (all p r.source_outputs) sizes (λ f. simp (f, and-false))) m)

    lower_inputs_lem : (j : ℕ) → j < length r.source → source_inputs_fit r j ≡ true
    lower_inputs_lem j l = and_right (pattern_shaped (source_of r j)) (source_inputs_fit r j) (sources j l)

    pub only_sound : SoundFixed limit r
    unfolding sound_fixed sizes_fit in_visiting_order outputs_fit connected
    only_sound = record {
      some_source = leb-true 1 (length r.source) (needed (leb 1 (length r.source)) sizes (λ f. simp f));
      few_sources = leb-true (length r.source) limit (needed (leb (length r.source) limit) sizes (λ f. simp (f, and-false)));
      few_targets = leb-true (length r.target) limit (needed (leb (length r.target) limit) sizes (λ f. simp (f, and-false)));
      some_output = leb-true 1 (length r.source_outputs) (needed (leb 1 (length r.source_outputs)) sizes (λ f. simp (f, and-false)));
      few_outputs = leb-true (length r.source_outputs) rule_output_limit
          (needed (leb (length r.source_outputs) rule_output_limit) sizes (λ f. simp (f, and-false)));
      same_count = eqb-true _ _ (needed (eqb (length r.target_outputs) (length r.source_outputs)) sizes (λ f. simp (f, and-false)));
      outputs_inside = inside;
      source_shapes = λ j l. and_left (pattern_shaped (source_of r j)) (source_inputs_fit r j) (sources j l);
      target_shapes = λ t l. and_left (pattern_shaped (target_of r t)) (target_inputs_fit r t) (targets t l);
      lower_inputs = lower_inputs_lem;
      named_inputs = λ t l. and_right (pattern_shaped (target_of r t)) (target_inputs_fit r t) (targets t l);
      order = same_lists _ _ (needed (in_visiting_order r) h (λ f. simp (f, and-false)));
      outputs = needed (source_outputs_fit r) outputs-good (λ f. simp f);
      connection =
          let found = any_below_some (λ v. all (reaches r v) r.source_outputs) (length r.source)
          (needed (connected r) outputs-good (λ f. simp (f, and-false))) in (
            found.0,
            found.1,
            λ o m. reached_path r (lower_of r lower_inputs_lem) found.0 o (inside o m)
                (all-member (reaches r found.0) found.2 m),
          );
      named_outputs = needed (all (origin_fits r (length r.target)) r.target_outputs) outputs-good (λ f. simp (f, and-false));
      names = needed (all_named r) outputs-good (λ f. simp (f, and-false));
      source_uses = λ j l. all_below_at (source_uses_fit r) (length r.source) j
          (needed (all_below (source_uses_fit r) (length r.source)) h (λ f. simp (f, and-false))) l;
      target_uses = λ t l. all_below_at (target_uses_fit r) (length r.target) t
          (needed (all_below (target_uses_fit r) (length r.target)) h (λ f. simp (f, and-false))) l;
    }

  module _ (s : SoundFixed limit r) where
    sizes_good : sizes_fit limit r ≡ true
    unfolding sizes_fit
    sizes_good =
        simp (
          le-leb 1 (length r.source) s.some_source,
          le-leb (length r.source) limit s.few_sources,
          le-leb (length r.target) limit s.few_targets,
          le-leb 1 (length r.source_outputs) s.some_output,
          le-leb (length r.source_outputs) rule_output_limit s.few_outputs,
          eq-eqb (length r.target_outputs) (length r.source_outputs) s.same_count,
          all_members (λ o. ltb o (length r.source)) r.source_outputs
              (λ o m. lt-ltb o (length r.source) (s.outputs_inside o m)),
        )

    in_order : in_visiting_order r ≡ true
    unfolding in_visiting_order
    in_order = rw s.order (same_self (range 0 (length r.source)))

    joined : connected r ≡ true
    unfolding connected
    joined =
        any_below-found (λ v. all (reaches r v) r.source_outputs) (length r.source) s.connection.0 s.connection.1
        (all_members (reaches r s.connection.0) r.source_outputs
        (λ o m. path_reached r (lower_of r s.lower_inputs) s.connection.0 o (s.outputs_inside o m) (s.connection.2 o m)))

    outputs-all : outputs_fit r ≡ true
    unfolding outputs_fit
    outputs-all = simp (s.outputs, joined, s.named_outputs, s.names)

    pub every_sound : sound_fixed limit r ≡ true
    unfolding sound_fixed
    every_sound =
        simp (
          sizes_good,
          all_below_every (λ j. pattern_shaped (source_of r j) && source_inputs_fit r j) (length r.source)
              (λ j l. simp (s.source_shapes j l, s.lower_inputs j l)),
          all_below_every (λ t. pattern_shaped (target_of r t) && target_inputs_fit r t) (length r.target)
              (λ t l. simp (s.target_shapes t l, s.named_inputs t l)),
          in_order,
          outputs-all,
          all_below_every (source_uses_fit r) (length r.source) s.source_uses,
          all_below_every (target_uses_fit r) (length r.target) s.target_uses,
        )

-- ---- a sound block of version 1 stands for a sound rule

module _ (block : List ℕ) (nodes : (k : ℕ) → k < node_count block → node_fits block k ≡ true) where
  node_made : (k : ℕ) → k < node_count block → expression_of block k ≡ node_from block (build (node_from block) k) k
  unfolding expression_of expressions
  node_made k l = build-at (node_from block) (node_count block) k anything l

  operand_made : (k j : ℕ) → k < node_count block → j < k → get_or (build (node_from block) k) j anything ≡ expression_of block j
  operand_made k j l m = build-at (node_from block) k j anything m ∙ sym (node_made j (omega arith))

  any-made : (k : ℕ) → k < node_count block → eqb (node_form block k) 0 ≡ true → expression_of block k ≡ anything
  unfolding node_by
  any-made k l t = node_made k l ∙ simp t

  -- an expression other than any is definite, and accesses source vertices
  abbrev Good : ℕ → Type 0
  Good k = (definite (expression_of block k) ≡ true) × (accesses_below (source_count block) (expression_of block k) ≡ true)

  constant_good : (k : ℕ) → k < node_count block → eqb (node_form block k) 0 ≡ false → eqb (node_form block k) 1 ≡ true → Good k
  unfolding node_by definite accesses_below
  constant_good k l s t =
      let made : expression_of block k ≡ constant (signed (u32_at block (node_at block k + 4))) = node_made k l ∙ simp (s, t) in
      (rw made (signed_in_range (u32_at block (node_at block k + 4))), rw made)

  access_good : (k : ℕ) → k < node_count block → eqb (node_form block k) 0 ≡ false → eqb (node_form block k) 1 ≡ false
      → eqb (node_form block k) 2 ≡ true → Good k
  unfolding node_by node_fits definite accesses_below
  access_good k l s t u =
      let made : expression_of block k ≡ access (node_left block k) (node_right block k) = node_made k l ∙ simp (s, t, u) in
      let fits = nodes k l in (
        rw made (needed (within 1 (node_right block k) attribute_limit) fits (λ f. simp (s, t, u, f, and-false))),
        rw made (needed (ltb (node_left block k) (source_count block)) fits (λ f. simp (s, t, u, f, and-false))),
      )

  operand_of : (k j : ℕ) → operand_fits block k j ≡ true → (j < k) × (eqb (node_form block j) 0 ≡ false)
  unfolding operand_fits
  operand_of k j h = (
    ltb-true j k (and_left (ltb j k) (not (eqb (node_form block j) 0)) h),
    not-true (eqb (node_form block j) 0) (and_right (ltb j k) (not (eqb (node_form block j) 0)) h),
  )

  operation_good : (k : ℕ) → k < node_count block → eqb (node_form block k) 0 ≡ false → eqb (node_form block k) 1 ≡ false
      → eqb (node_form block k) 2 ≡ false → ((j : ℕ) → j < k → eqb (node_form block j) 0 ≡ false → Good j) → Good k
  unfolding node_by node_fits definite accesses_below
  operation_good k l s t u earlier =
      let fits = nodes k l in
      let form = node_form block k in
      let few = leb-true form 7 (needed (leb form 7) fits (λ f. simp (s, t, u, f, and-false))) in
      let left = operand_of k (node_left block k) (needed (operand_fits block k (node_left block k)) fits (λ f. simp (s, t, u, f, and-false))) in
      let right = operand_of k (node_right block k) (needed (operand_fits block k (node_right block k)) fits (λ f. simp (s, t, u, f, and-false))) in
      let made : expression_of block k
      ≡ apply (get_or operations (form - 3) remainder) (expression_of block (node_left block k)) (expression_of block (node_right block k)) =
      node_made k l ∙ simp (
        s,
        t,
        u,
        ne_eqb form 8 (λ e. omega arith),
        ne_eqb form 9 (λ e. omega arith),
        operand_made k (node_left block k) l left.0,
        operand_made k (node_right block k) l right.0,
      ) in
      let x = earlier (node_left block k) left.0 left.1 in
      let y = earlier (node_right block k) right.0 right.1 in
      (rw made (simp (x.0, y.0)), rw made (simp (x.1, y.1)))

  good_below : (n k : ℕ) → k < n → k < node_count block → eqb (node_form block k) 0 ≡ false → Good k
  good_below zero k b l s = absurd (not-suc-le-zero b)
  good_below (suc n) k b l s =
      ⊎_elim (λ (t : eqb (node_form block k) 1 ≡ true). constant_good k l s t)
      (λ (t : eqb (node_form block k) 1 ≡ false).
      ⊎_elim (λ (u : eqb (node_form block k) 2 ≡ true). access_good k l s t u)
      (λ (u : eqb (node_form block k) 2 ≡ false).
      operation_good k l s t u (λ j m f. good_below n j (omega arith) (omega arith) f))
      (decided (eqb (node_form block k) 2)))
      (decided (eqb (node_form block k) 1))

module _ (block : List ℕ) (s : SoundRule block) where
  some_sources : 1 ≤ source_count block
  unfolding rule_header_fits rule_sizes_fit
  some_sources = leb-true 1 (source_count block) (needed (leb 1 (source_count block)) s.header (λ f. simp (f, and-false)))

  source_uses_lem : (j : ℕ) → j < source_count block → source_uses_fit (rule_of block) j ≡ true
  unfolding source_uses_fit use_fits is_any
  source_uses_lem j l =
      let es = (source_of (rule_of block) j).attributes in
      all_every (λ e. is_any e || definite e && accesses_below j e) anything es (λ i m.
      let k = byte_at block (vertex_at j + 10 + i) in
      let fits = s.uses j i (omega arith) (rw (source-attributes-at block j l) at m) in
      let below : accesses_below j (expression_of block k) ≡ true =
      needed (accesses_below j (expression_of block k)) fits (λ f. simp (lt-ltb j (source_count block) l, f, and-false)) in
      let inside : k < node_count block = use_inside block j k fits in
      rw (source_attribute_at block j i anything l m)
      (⊎_elim (λ (t : eqb (node_form block k) 0 ≡ true). rw (any-made block s.nodes k inside t))
      (λ (t : eqb (node_form block k) 0 ≡ false).
      simp ((good_below block s.nodes (suc k) k (omega arith) inside t).0, below, or-true))
      (decided (eqb (node_form block k) 0))))

  target_uses_lem : (t : ℕ) → t < target_count block → target_uses_fit (rule_of block) t ≡ true
  unfolding target_uses_fit use_fits
  target_uses_lem t l =
      let es = (target_of (rule_of block) t).attributes in
      let v = source_count block + t in
      all_every (λ e. definite e && accesses_below (length (rule_of block).source) e) anything es (λ i m.
      let k = byte_at block (vertex_at v + 10 + i) in
      let fits = s.uses v i (omega arith) (rw (target-attributes-at block t l) at m) in
      let inside : k < node_count block = use_inside block v k fits in
      let other : eqb (node_form block k) 0 ≡ false = not-true (eqb (node_form block k) 0)
      (needed (not (eqb (node_form block k) 0)) fits (λ f. simp (le-ltb v (source_count block) (omega arith), f, and-false))) in
      let good = good_below block s.nodes (suc k) k (omega arith) inside other in
      rw (target_attribute_at block t i anything l m, length-source block) (simp (good.0, good.1)))

  source_shapes_lem : (j : ℕ) → j < source_count block → pattern_shaped (source_of (rule_of block) j) ≡ true
  unfolding pattern_shaped
  source_shapes_lem j l =
      rw (source_kind_at block j l, source-operator-at block j l, source-count-at block j l, source-attributes-at block j l)
      (pattern_shape block (vertex_at j) (s.patterns j (omega arith)))

  target_shapes_lem : (t : ℕ) → t < target_count block → pattern_shaped (target_of (rule_of block) t) ≡ true
  unfolding pattern_shaped
  target_shapes_lem t l =
      rw (target_kind_at block t l, target-operator-at block t l, target-count-at block t l, target-attributes-at block t l)
      (pattern_shape block (vertex_at (source_count block + t)) (s.patterns (source_count block + t) (omega arith)))

  -- A sound block of version 1 stands for a sound rule of at most 16 vertices a side.
  pub sound-block : SoundFixed side_limit (rule_of block)
  sound-block = record {
    some_source = rw (length-source block) some_sources;
    few_sources = rw (length-source block) (few_sources_lem block side_limit s.header);
    few_targets = rw (length-target block) (few_targets_lem block side_limit s.header);
    some_output = rw (length-source-outputs block) (some_rule-outputs block side_limit s.header);
    few_outputs = rw (length-source-outputs block) (few_rule-outputs block side_limit s.header);
    same_count = length-target-outputs block ∙ sym (length-source-outputs block);
    outputs_inside = λ o m. rw (length-source block) (outputs_below block side_limit s.header o m);
    source_shapes = λ j l. source_shapes_lem j (rw (length-source block) at l);
    target_shapes = λ t l. target_shapes_lem t (rw (length-target block) at l);
    lower_inputs = λ j l. s.lower_inputs j (rw (length-source block) at l);
    named_inputs = λ t l. s.named_inputs t (rw (length-target block) at l);
    order = s.order ∙ ap (range 0) (sym (length-source block));
    outputs = s.outputs.source;
    connection = (s.outputs.connection.0, rw (length-source block) s.outputs.connection.1, s.outputs.connection.2);
    named_outputs = rw (length-target block) s.outputs.target;
    names = s.outputs.names;
    source_uses = λ j l. source_uses_lem j (rw (length-source block) at l);
    target_uses = λ t l. target_uses_lem t (rw (length-target block) at l);
  }

-- ---- and what a sound block is beside that

-- what is said of a version 1 block and not of its rule: length and header, unused places, every node, and the attributes' node
-- numbers
pub record BlockFacts (block : List ℕ) : Type 0 where
  pub header : rule_header_fits side_limit block ≡ true
  pub patterns : (v : ℕ) → v < source_count block + target_count block → pattern_fits block (vertex_at v) ≡ true
  pub nodes : (k : ℕ) → k < node_count block → node_fits block k ≡ true
  pub inside : (v i : ℕ) → v < source_count block + target_count block → i < byte_at block (vertex_at v + 3)
      → byte_at block (vertex_at v + 10 + i) < node_count block

pub block_facts : (block : List ℕ) → SoundRule block → BlockFacts block
block_facts block s = record {
  header = s.header;
  patterns = s.patterns;
  nodes = s.nodes;
  inside = λ v i l m. use_inside block v (byte_at block (vertex_at v + 10 + i)) (s.uses v i l m);
}

-- an attribute of a source vertex accesses lower vertices only
pub any_or_below : (j : ℕ) (e : Expression) → (is_any e || definite e && accesses_below j e) ≡ true → accesses_below j e ≡ true
unfolding is_any definite accesses_below
any_or_below j anything h = refl
any_or_below j (constant z) h = refl
any_or_below j (access v k) h = and_right (within 1 k attribute_limit) (ltb v j) h
any_or_below j (apply o x y) h = and_right (definite x && definite y) (accesses_below j x && accesses_below j y) h
any_or_below j index h = refl
any_or_below j (sum x) h = absurd (false≢true h)

module _ (block : List ℕ) (b : BlockFacts block) (s : SoundFixed side_limit (rule_of block)) where
  source_use : (j i : ℕ) → j < source_count block → i < byte_at block (vertex_at j + 3)
      → use_fits block j (byte_at block (vertex_at j + 10 + i)) ≡ true
  unfolding source_uses_fit use_fits
  source_use j i l m =
      let place : i < length (source_of (rule_of block) j).attributes = rw (source-attributes-at block j l) m in
      let fits = all-at (λ e. is_any e || definite e && accesses_below j e) anything (source_of (rule_of block) j).attributes i
      (s.source_uses j (rw (length-source block) l)) place in
      simp (
        lt-ltb _ (node_count block) (b.inside j i (omega arith) m),
        lt-ltb j (source_count block) l,
        any_or_below j (expression_of block (byte_at block (vertex_at j + 10 + i)))
            (rw (source_attribute_at block j i anything l place) at fits),
      )

  target_use : (t i : ℕ) → t < target_count block → i < byte_at block (vertex_at (source_count block + t) + 3)
      → use_fits block (source_count block + t) (byte_at block (vertex_at (source_count block + t) + 10 + i)) ≡ true
  unfolding target_uses_fit use_fits definite
  target_use t i l m =
      let v = source_count block + t in
      let k = byte_at block (vertex_at v + 10 + i) in
      let inside = b.inside v i (omega arith) m in
      let place : i < length (target_of (rule_of block) t).attributes = rw (target-attributes-at block t l) m in
      let fits = all-at (λ e. definite e && accesses_below (length (rule_of block).source) e) anything (target_of (rule_of block) t).attributes i
      (s.target_uses t (rw (length-target block) l)) place in
      let here = and_left (definite (expression_of block k)) (accesses_below (length (rule_of block).source) (expression_of block k))
      (rw (target_attribute_at block t i anything l place) at fits) in
      let other : eqb (node_form block k) 0 ≡ false = fails (λ h. false≢true (rw (any-made block b.nodes k inside h) at here)) in
      simp (lt-ltb k (node_count block) inside, le-ltb v (source_count block) (omega arith), other)

  -- So a version 1 block is sound exactly where these hold of it and its rule is sound.
  pub block-sound : SoundRule block
  block-sound = record {
    header = b.header;
    patterns = b.patterns;
    lower_inputs = λ j l. s.lower_inputs j (rw (length-source block) l);
    named_inputs = λ t l. s.named_inputs t (rw (length-target block) l);
    order = s.order ∙ ap (range 0) (length-source block);
    outputs = record {
      source = s.outputs;
      connection = (s.connection.0, rw (length-source block) at s.connection.1, s.connection.2);
      target = rw (← length-target block) s.named_outputs;
      names = s.names;
    };
    nodes = b.nodes;
    uses = λ v i l m. ⊎_elim (λ (t : ltb v (source_count block) ≡ true). source_use v i (ltb-true v (source_count block) t) m)
        (λ (t : ltb v (source_count block) ≡ false).
        let least = ltb-false v (source_count block) t in
        let same : source_count block + (v - source_count block) ≡ v = omega arith in
        rw same at (target_use (v - source_count block) i (omega arith) (rw same m)))
        (decided (ltb v (source_count block)));
  }
