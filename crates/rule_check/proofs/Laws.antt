-- What each test that a block passed says of it: the layout, that source inputs are lower, and that source outputs are vertices.
-- Assumes nothing.
use mathlib.Core.Path.{◌≡◌}
use mathlib.Core.Bool.{Bool, true, false, cond, ◌&&◌, and-false}
use mathlib.Core.List.{List}
use Prim.Native.Nat.{ℕ, ◌+◌, ◌-◌, ◌<◌, ◌≤◌}
use native.Mathlib.Omega.{arith}
use borrow.Author.Tests.{leb-true, ltb-true, eqb-true, ne_eqb, not-false, lt-ltb, le-ltb}
use lib.Dec.{eqb, leb, ltb}
use lib.ListN.{length, get_or}
use Rattle.definitions.specs.Lists.{lowest, all, all_below}
use Rattle.definitions.specs.Fields.{byte_at, u16_at}
use Rattle.definitions.specs.Reply.{bad_rule_header, bad_rule_record, bad_rule_order, bad_rule_outputs, bad_rule_expression, done, refused_at, refused, flag, place, judged}
use Rattle.definitions.specs.Rule.{side_limit, rule_output_limit, node_limit, rule_version, source_count, target_count, rule_output_count, node_count, vertex_at, node_at, rule_of, source_inputs, rule_sizes_fit, rule_output_places_fit, rule_header_fits, pattern_fits, source_inputs_fit, target_inputs_fit, bad_vertex, bad_vertex_of, out_of_order, outputs_fit, bad_node, bad_use, rule_faults, rule_reply}
use Rattle.laws.proofs.Lists.{true_not_false, needed, lowest_passed, all-at, all_below_at}
use Rattle.rule_records.proofs.Laws.{pattern-inputs, pattern-attributes}
use Rattle.rule_fields.specs.Fixed.{expanded_version, is_expanded}
use Rattle.rule_fields.specs.Layout.{WholeRule, LentRule, ReadableRule, Layered}
use Rattle.rule_fields.proofs.Fixed.{source-output_of, lent_rule_lem, lent_nodes, lent_split}

module _ (block : List ℕ) where
  -- a block that is lent, and whose length and sizes are right
  pub lent_whole : is_expanded block ≡ false → length block ≡ node_at block (node_count block) → rule_sizes_fit side_limit block ≡ true
      → LentRule block
  unfolding rule_sizes_fit
  lent_whole lent size sizes =
      let same = lent_nodes block lent in
      let nodes = leb-true (node_count block) node_limit (needed (leb (node_count block) node_limit) sizes (λ f. simp (f, and-false))) in
      let source = leb-true (source_count block) side_limit (needed (leb (source_count block) side_limit) sizes (λ f. simp (f, and-false))) in
      let target = leb-true (target_count block) side_limit (needed (leb (target_count block) side_limit) sizes (λ f. simp (f, and-false))) in
      record {
        whole = record {
          size = omega (arith, size, same);
          table = λ t. absurd (true_not_false t lent);
          source = omega arith;
          target = omega arith;
          split = omega (arith, lent_split block lent);
          outputs = leb-true (rule_output_count block) rule_output_limit
              (needed (leb (rule_output_count block) rule_output_limit) sizes (λ f. simp (f, and-false)));
          nodes = omega arith;
        };
        same_nodes = same;
        few_nodes = nodes;
      }

  -- a block of version 1 is lent
  pub header_lent : rule_header_fits side_limit block ≡ true → is_expanded block ≡ false
  unfolding rule_header_fits is_expanded u16_at
  header_lent h =
      let version = eqb-true (u16_at block 4) rule_version (needed (eqb (u16_at block 4) rule_version) h (λ f. simp (f, and-false))) in
      ne_eqb (byte_at block 4) expanded_version (λ e. omega (arith, version))

  pub whole : rule_header_fits side_limit block ≡ true → LentRule block
  unfolding rule_header_fits
  whole h =
      lent_whole (header_lent h) (eqb-true _ _ (needed (eqb (length block) (node_at block (node_count block))) h (λ f. simp f)))
      (needed (rule_sizes_fit side_limit block) h (λ f. simp (f, and-false)))

  module _ (vertices : source_count block + target_count block ≤ lowest (bad_vertex block) (source_count block + target_count block)) where
    -- every vertex's record and input places are good
    pub good : (v : ℕ) → v < source_count block + target_count block
        → (pattern_fits block (vertex_at v)
        && cond (ltb v (source_count block)) (source_inputs_fit (rule_of block) v) (target_inputs_fit (rule_of block) (v - source_count block)))
        ≡ true
    unfolding bad_vertex_of
    good v l = not-false _ (lowest_passed (bad_vertex block) (source_count block + target_count block) v (omega arith))

    pub pattern : (v : ℕ) → v < source_count block + target_count block → pattern_fits block (vertex_at v) ≡ true
    pattern v l = needed (pattern_fits block (vertex_at v)) (good v l) (λ f. simp f)

    pub readable : WholeRule block → ReadableRule block
    readable w = record {
      whole = w;
      inputs = λ v l. pattern-inputs block (vertex_at v) (pattern v l);
      attributes = λ v l. pattern-attributes block (vertex_at v) (pattern v l);
    }

    lower : (j : ℕ) → j < source_count block → all (λ p. ltb p j) (source_inputs (rule_of block) j) ≡ true
    unfolding source_inputs_fit
    lower j l =
        needed (source_inputs_fit (rule_of block) j) (good j (omega arith))
        (λ f. simp (lt-ltb j (source_count block) l, f, and-false))

    pub layered : rule_header_fits side_limit block ≡ true → Layered block
    unfolding rule_header_fits rule_output_places_fit
    layered h = record {
      lower = rw (lent_rule_lem block (header_lent h)) (λ j i l m.
          ltb-true (get_or (source_inputs (rule_of block) j) i 255) j
          (all-at (λ p. ltb p j) 255 (source_inputs (rule_of block) j) i (lower j l) m));
      outputs = λ i l.
          let below : ℕ → Bool = λ k. ltb (byte_at block (10 + k)) (source_count block) in
          let listed = needed (all_below below (rule_output_count block)) h (λ f. simp (f, and-false)) in
          rw (source-output_of block i 255 l)
          (ltb-true (byte_at block (10 + i)) (source_count block) (all_below_at below (rule_output_count block) i listed l));
    }

  -- ---- the reply, fault by fault: each kind refuses, with its place, once those before it do not

  pub refused-header : rule_header_fits side_limit block ≡ false → refused bad_rule_header ≡ rule_reply block
  unfolding rule_reply rule_faults flag judged
  refused-header h = simp h

  -- how many vertices there are, and what the search for each fault finds
  abbrev vertex_count : ℕ
  vertex_count = source_count block + target_count block

  abbrev vertex_found : ℕ
  vertex_found = lowest (bad_vertex block) vertex_count

  abbrev order_found : ℕ
  order_found = lowest (out_of_order (rule_of block)) (source_count block)

  abbrev node_found : ℕ
  node_found = lowest (bad_node block) (node_count block)

  abbrev use_found : ℕ
  use_found = lowest (bad_use block) vertex_count

  module _ (header : rule_header_fits side_limit block ≡ true) where
    pub refused-vertex : vertex_found < vertex_count → refused_at bad_rule_record vertex_found ≡ rule_reply block
    unfolding rule_reply rule_faults flag place judged
    refused-vertex l = simp (header, lt-ltb _ _ l)

    module _ (vertices : vertex_count ≤ vertex_found) where
      pub refused-order : order_found < source_count block → refused_at bad_rule_order order_found ≡ rule_reply block
      unfolding rule_reply rule_faults flag place judged
      refused-order l = simp (header, le-ltb _ _ vertices, lt-ltb _ _ l)

      module _ (order : source_count block ≤ order_found) where
        pub refused-outputs : outputs_fit (rule_of block) ≡ false → refused bad_rule_outputs ≡ rule_reply block
        unfolding rule_reply rule_faults flag place judged
        refused-outputs f = simp (header, le-ltb _ _ vertices, le-ltb _ _ order, f)

        module _ (outputs : outputs_fit (rule_of block) ≡ true) where
          pub refused-node : node_found < node_count block → refused_at bad_rule_expression node_found ≡ rule_reply block
          unfolding rule_reply rule_faults flag place judged
          refused-node l = simp (header, le-ltb _ _ vertices, le-ltb _ _ order, outputs, lt-ltb _ _ l)

          module _ (nodes : node_count block ≤ node_found) where
            pub refused_use : use_found < vertex_count → refused_at bad_rule_expression use_found ≡ rule_reply block
            unfolding rule_reply rule_faults flag place judged
            refused_use l = simp (header, le-ltb _ _ vertices, le-ltb _ _ order, outputs, le-ltb _ _ nodes, lt-ltb _ _ l)

            pub sound : vertex_count ≤ use_found → done ≡ rule_reply block
            unfolding rule_reply rule_faults flag place judged
            sound l = simp (header, le-ltb _ _ vertices, le-ltb _ _ order, outputs, le-ltb _ _ nodes, le-ltb _ _ l)
