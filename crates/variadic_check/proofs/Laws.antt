-- What each test that a block passed says of it and of its version 1 block, and the reply, fault by fault.
-- Assumes nothing.
use mathlib.Core.Path.{◌≡◌, refl, sym, ◌∙◌}
use mathlib.Core.Bool.{Bool, true, false, cond, not, ◌&&◌, ◌||◌, and-false}
use mathlib.Core.List.{List, [], ◌∷◌, ◌++◌}
use mathlib.Core.Logic.{⊎_elim}
use Prim.Native.Nat.{ℕ, ◌+◌, ◌-◌, ◌<◌, ◌≤◌}
use native.Mathlib.Omega.{arith}
use borrow.Author.Tests.{leb-true, ltb-true, ltb-false, eqb-true, ne_eqb, not-false, lt-ltb, le-ltb}
use lib.Dec.{eqb, leb, ltb}
use lib.ListN.{length}
use Rattle.definitions.specs.Lists.{lowest}
use Rattle.definitions.specs.Fields.{byte_at, u16_at}
use Rattle.definitions.specs.Reply.{Reply, bad_rule_header, bad_rule_record, bad_rule_order, bad_rule_outputs, bad_rule_expression, done, refused_at, refused, flag, place, judged}
use Rattle.definitions.specs.Rule.{side_limit, node_limit, source_count, target_count, node_count, vertex_at, node_at, rule_of, rule_sizes_fit, pattern_fits, source_inputs_fit, target_inputs_fit, bad_vertex, bad_vertex_of, out_of_order, outputs_fit, rule_header_fits}
use Rattle.definitions.specs.VariadicBlock.{variadic_version, is_variadic, variadic_of, variadic_header_fits, source_templates_fit, target_templates_fit, bad_variadic_vertex, shared_outputs, bad_variadic_node, bad_variadic_use, variadic_faults}
use Rattle.laws.proofs.Lists.{decided, and_left, needed, lowest_passed, lowest-found, lowest_none, lowest-holds, lowest-whole}
use Rattle.rule_records.proofs.Laws.{pattern-inputs, pattern-attributes}
use Rattle.rule_fields.specs.Fixed.{expanded_version, is_expanded, fixed_of}
use Rattle.rule_fields.specs.Layout.{LentRule, ReadableRule, LayeredRule}
use Rattle.rule_fields.proofs.Fixed.{lent_rule_lem}
use Rattle.rule_check.proofs.Laws.{lent_whole, header_lent, whole, readable, layered}
use Rattle.variadic_plain.specs.Plain.{plain_block}
use Rattle.variadic_plain.proofs.Laws.{Short, same_source, same_target, record_kept, plain-header, plain-pattern, plain-source-inputs, plain-target-inputs, plain-rule}
use Rattle.variadic_templates.specs.Templates.{bad_templates, ShortBelow}
use Rattle.variadic_check.specs.Faults.{block_faults, expansion_fault}

-- these are all faults but the last
pub faults_parted : (block : List ℕ) → variadic_faults block ≡ block_faults block ++ expansion_fault block ∷ []
unfolding variadic_faults block_faults expansion_fault
faults_parted block = refl

apart : (a b : Bool) → not (a && b) ≡ (not a || not b)
apart true b = refl
apart false b = refl

or_left : (a b : Bool) → (a || b) ≡ false → a ≡ false
or_left true b h = h
or_left false b h = refl

-- ---- the lowest of which one of two tests holds

lowest_few : (p : ℕ → Bool) (n : ℕ) → lowest p n ≤ n
lowest_few p n =
    ⊎_elim (λ (t : ltb n (lowest p n) ≡ true).
    let l = ltb-true n (lowest p n) t in
    omega (arith, lowest_none p n (λ k m. lowest_passed p n k (omega arith))))
    (λ (t : ltb n (lowest p n) ≡ false). ltb-false n (lowest p n) t)
    (decided (ltb n (lowest p n)))

module _ (p q either : ℕ → Bool) (n : ℕ) (same : (k : ℕ) → k < n → either k ≡ (p k || q k)) where
  abbrev first : ℕ
  first = lowest p n

  neither : (k : ℕ) → k < n → p k ≡ false → q k ≡ false → either k ≡ false
  neither k l s t = same k l ∙ simp (s, t)

  -- the second test is asked only below the lowest number of which the first holds
  pub lowest_either : first ≤ n → lowest either n ≡ lowest q first
  lowest_either few =
      ⊎_elim (λ (t : ltb (lowest q first) first ≡ true).
      let l = ltb-true (lowest q first) first t in
      let k = lowest q first in
      let holds : either k ≡ true = same k (omega arith) ∙ simp (lowest_passed p n k l, lowest-holds q first l) in
      lowest-found either n k (omega arith) (λ j m. neither j (omega arith) (lowest_passed p n j (omega arith)) (lowest_passed q first j m)) holds)
      (λ (t : ltb (lowest q first) first ≡ false).
      let late = ltb-false (lowest q first) first t in
      let none : lowest q first ≡ first = lowest_none q first (λ j m. lowest_passed q first j (omega (arith, late))) in
      let passed : (j : ℕ) → j < first → either j ≡ false =
      λ j m. neither j (omega arith) (lowest_passed p n j m) (lowest_passed q first j (omega (arith, none))) in
      rw none (⊎_elim (λ (s : ltb first n ≡ true).
      let l = ltb-true first n s in
      lowest-found either n first l passed (same first l ∙ simp (lowest-holds p n l)))
      (λ (s : ltb first n ≡ false).
      let e : first ≡ n = omega (arith, ltb-false first n s) in
      lowest_none either n (λ j m. passed j (omega (arith, e))) ∙ sym e)
      (decided (ltb first n))))
      (decided (ltb (lowest q first) first))

-- ---- a block whose header fits

module _ (block : List ℕ) (header : variadic_header_fits block ≡ true) where
  abbrev plain : List ℕ
  plain = plain_block block

  abbrev vertex_count : ℕ
  vertex_count = source_count block + target_count block

  fits : rule_header_fits side_limit plain ≡ true
  fits = plain-header block header

  pub plain-whole : LentRule plain
  plain-whole = whole plain fits

  pub plain_same : fixed_of plain ≡ rule_of plain
  plain_same = lent_rule_lem plain (header_lent plain fits)

  lent : is_expanded block ≡ false
  unfolding variadic_header_fits is_variadic is_expanded u16_at
  lent =
      let version = eqb-true (u16_at block 4) variadic_version (needed (eqb (u16_at block 4) variadic_version) header (λ f. simp (f, and-false))) in
      ne_eqb (byte_at block 4) expanded_version (λ e. omega (arith, version))

  size : length block ≡ node_at block (node_count block)
  unfolding variadic_header_fits
  size = eqb-true _ _ (needed (eqb (length block) (node_at block (node_count block))) header (λ f. simp f))

  sizes : rule_sizes_fit side_limit block ≡ true
  unfolding variadic_header_fits
  sizes = needed (rule_sizes_fit side_limit block) header (λ f. simp (f, and-false))

  pub block-whole : LentRule block
  block-whole = lent_whole block lent size sizes

  -- no longer than the longest block
  pub block-short : length block ≤ 1040
  unfolding rule_sizes_fit
  block-short =
      let sources = leb-true (source_count block) side_limit (needed (leb (source_count block) side_limit) sizes (λ f. simp (f, and-false))) in
      let targets = leb-true (target_count block) side_limit (needed (leb (target_count block) side_limit) sizes (λ f. simp (f, and-false))) in
      let nodes = leb-true (node_count block) node_limit (needed (leb (node_count block) node_limit) sizes (λ f. simp (f, and-false))) in
      omega (arith, size, sources, targets, nodes)

  -- ---- the records

  -- a record that fits has no more inputs and attributes than places
  short : (v : ℕ) → pattern_fits plain (vertex_at v) ≡ true → Short block v
  short v h = (
    rw (record_kept block v 2 (omega arith) (omega arith)) at (pattern-inputs plain (vertex_at v) h),
    rw (record_kept block v 3 (omega arith) (omega arith)) at (pattern-attributes plain (vertex_at v) h),
  )

  -- the test of version 1, and that of the templates
  bad_either : (v : ℕ) → v < vertex_count → bad_variadic_vertex block v ≡ (bad_vertex plain v || bad_templates block v)
  unfolding bad_variadic_vertex bad_vertex_of bad_templates
  bad_either v l =
      rw (← plain-pattern block v l, same_source block)
      (⊎_elim (λ (t : pattern_fits plain (vertex_at v) ≡ true).
      ⊎_elim (λ (s : ltb v (source_count block) ≡ true).
      simp (t, s, ← plain-source-inputs block v (ltb-true v (source_count block) s) (short v t))
      (apart (source_inputs_fit (rule_of plain) v) (source_templates_fit (variadic_of block) v)))
      (λ (s : ltb v (source_count block) ≡ false).
      let m = ltb-false v (source_count block) s in
      let e : source_count block + (v - source_count block) ≡ v = omega arith in
      let same = plain-target-inputs block (v - source_count block) (omega arith) (rw e (short v t)) in
      simp (t, s, ← same)
      (apart (target_inputs_fit (rule_of plain) (v - source_count block)) (target_templates_fit (variadic_of block) (v - source_count block))))
      (decided (ltb v (source_count block))))
      (λ (t : pattern_fits plain (vertex_at v) ≡ false). simp t)
      (decided (pattern_fits plain (vertex_at v))))

  -- the version 1 block's first bad vertex
  abbrev pub plain_found : ℕ
  plain_found = lowest (bad_vertex plain) vertex_count

  plain_passed : (v : ℕ) → bad_vertex plain v ≡ false → pattern_fits plain (vertex_at v) ≡ true
  unfolding bad_vertex_of
  plain_passed v h =
      and_left (pattern_fits plain (vertex_at v))
      (cond (ltb v (source_count plain)) (source_inputs_fit (rule_of plain) v) (target_inputs_fit (rule_of plain) (v - source_count plain)))
      (not-false _ h)

  pub short_below : ShortBelow block plain_found
  short_below v l = (short v (plain_passed v (lowest_passed (bad_vertex plain) vertex_count v l))).0

  pub found_inside : plain_found ≤ vertex_count
  found_inside = lowest_few (bad_vertex plain) vertex_count

  pub vertex-found : lowest (bad_variadic_vertex block) vertex_count ≡ lowest (bad_templates block) plain_found
  vertex-found = lowest_either (bad_vertex plain) (bad_templates block) (bad_variadic_vertex block) vertex_count bad_either found_inside

  -- ---- what is known where no vertex is bad

  module _ (vertices : vertex_count ≤ lowest (bad_variadic_vertex block) vertex_count) where
    good : (v : ℕ) → v < vertex_count → bad_vertex plain v ≡ false
    good v l =
        or_left (bad_vertex plain v) (bad_templates block v)
        (sym (bad_either v l) ∙ lowest_passed (bad_variadic_vertex block) vertex_count v (omega arith))

    plain-vertices : source_count plain + target_count plain ≤ lowest (bad_vertex plain) (source_count plain + target_count plain)
    plain-vertices = lowest-whole (bad_vertex plain) (source_count plain + target_count plain) (λ v l. good v (omega (arith, same_source block, same_target block)))

    pub plain_layered : LayeredRule plain
    plain_layered = record {
      readable = readable plain plain-vertices plain-whole.whole;
      layered = layered plain plain-vertices fits;
    }

    shorts : (v : ℕ) → v < vertex_count → Short block v
    shorts v l = short v (plain_passed v (good v l))

    pub same_rule : fixed_of plain ≡ (variadic_of block).plain
    same_rule = plain_same ∙ plain-rule block sizes shorts

    pub block_readable : ReadableRule block
    block_readable = record {
      whole = block-whole.whole;
      inputs = λ v l. (shorts v l).0;
      attributes = λ v l. (shorts v l).1;
    }

-- ---- the reply, fault by fault: each kind refuses, with its place, once those before it do not

module _ (block : List ℕ) where
  abbrev answer : Reply
  answer = judged (block_faults block)

  pub refused-header : variadic_header_fits block ≡ false → refused bad_rule_header ≡ answer
  unfolding block_faults flag judged
  refused-header h = simp h

  -- how many vertices there are, and what the search for each fault finds
  abbrev count : ℕ
  count = source_count block + target_count block

  abbrev vertex_found : ℕ
  vertex_found = lowest (bad_variadic_vertex block) count

  abbrev order_found : ℕ
  order_found = lowest (out_of_order (variadic_of block).plain) (source_count block)

  abbrev node_found : ℕ
  node_found = lowest (bad_variadic_node block) (node_count block)

  abbrev use_found : ℕ
  use_found = lowest (bad_variadic_use block) count

  module _ (header : variadic_header_fits block ≡ true) where
    pub refused-vertex : vertex_found < count → refused_at bad_rule_record vertex_found ≡ answer
    unfolding block_faults flag place judged
    refused-vertex l = simp (header, lt-ltb _ _ l)

    module _ (vertices : count ≤ vertex_found) where
      pub refused-order : order_found < source_count block → refused_at bad_rule_order order_found ≡ answer
      unfolding block_faults flag place judged
      refused-order l = simp (header, le-ltb _ _ vertices, lt-ltb _ _ l)

      module _ (order : source_count block ≤ order_found) where
        pub refused-outputs : outputs_fit (variadic_of block).plain ≡ false → refused bad_rule_outputs ≡ answer
        unfolding block_faults flag place judged
        refused-outputs f = simp (header, le-ltb _ _ vertices, le-ltb _ _ order, f)

        module _ (outputs : outputs_fit (variadic_of block).plain ≡ true) where
          pub refused_template : shared_outputs (variadic_of block) ≡ false → refused bad_rule_outputs ≡ answer
          unfolding block_faults flag place judged
          refused_template f = simp (header, le-ltb _ _ vertices, le-ltb _ _ order, outputs, f)

          module _ (shared : shared_outputs (variadic_of block) ≡ true) where
            pub refused-node : node_found < node_count block → refused_at bad_rule_expression node_found ≡ answer
            unfolding block_faults flag place judged
            refused-node l = simp (header, le-ltb _ _ vertices, le-ltb _ _ order, outputs, shared, lt-ltb _ _ l)

            module _ (nodes : node_count block ≤ node_found) where
              pub refused_use : use_found < count → refused_at bad_rule_expression use_found ≡ answer
              unfolding block_faults flag place judged
              refused_use l = simp (header, le-ltb _ _ vertices, le-ltb _ _ order, outputs, shared, le-ltb _ _ nodes, lt-ltb _ _ l)

              pub passed : count ≤ use_found → done ≡ answer
              unfolding block_faults flag place judged
              passed l = simp (header, le-ltb _ _ vertices, le-ltb _ _ order, outputs, shared, le-ltb _ _ nodes, le-ltb _ _ l)
