-- A rule is sound where every test of it passes, and not where one fails; and what a test that passed says to those after it.
-- Assumes nothing.
use mathlib.Core.Path.{◌≡◌, refl, sym, ◌∙◌}
use mathlib.Core.Bool.{Bool, true, false, not, ◌&&◌, and-false, and-true}
use mathlib.Core.List.{List}
use mathlib.Core.Logic.{⊎_elim}
use Prim.Native.Nat.{ℕ, ◌+◌, ◌-◌, ◌<◌, ◌≤◌}
use native.Mathlib.Omega.{arith}
use borrow.Author.Tests.{le-leb, lt-leb, lt-ltb, le-ltb, ltb-true, ltb-false, eq-eqb, not-true, not-false}
use lib.Dec.{ltb}
use lib.ListN.{length, get_or}
use Rattle.definitions.specs.Lists.{all, all_below, lowest, range}
use Rattle.definitions.specs.Rule.{side_capacity, rule_output_limit, source_count, target_count, vertex_at, Rule, source_of, target_of, source_inputs, source_inputs_fit, target_inputs_fit, pattern_fits, bad_vertex_of, out_of_order, outputs_fit}
use Rattle.definitions.specs.FixedRule.{pattern_shaped, source_uses_fit, target_uses_fit, sizes_fit, in_visiting_order, sound_fixed}
use Rattle.rule_fields.specs.Fixed.{fixed_of}
use Rattle.rule_fields.specs.Layout.{LayeredRule}
use Rattle.rule_fields.proofs.Fixed.{length-source, length-target, length-source-outputs, length-target-outputs, source_kind_at, source-operator-at, source-count-at, source-attributes-at, target_kind_at, target-operator-at, target-count-at, target-attributes-at}
use Rattle.rule_order.proofs.Once.{traversal-whole}
use Rattle.rule_sound.proofs.Sound.{lower_of}
use Rattle.laws.proofs.Lists.{decided, true_not_false, fails, and_right, all-at, all-member, all_below_every, all_below_fails, lowest-holds, lowest_passed}
use Rattle.laws.proofs.Ranges.{same_lists, same_self, range_at}
use Rattle.variadic_sound.specs.Judged.{Judgeable}

module _ (block : List ℕ) where
  abbrev rule : Rule
  rule = fixed_of block

  abbrev source_length : ℕ
  source_length = length rule.source

  abbrev target_length : ℕ
  target_length = length rule.target

  -- o is a source vertex
  abbrev is_vertex : ℕ → Bool
  is_vertex o = ltb o source_length

  -- source vertex j, or target vertex t, follows the tables, and its inputs fit
  abbrev source_fits : ℕ → Bool
  source_fits j = pattern_shaped (source_of rule j) && source_inputs_fit rule j

  abbrev target_fits : ℕ → Bool
  target_fits t = pattern_shaped (target_of rule t) && target_inputs_fit rule t

  abbrev vertex_count : ℕ
  vertex_count = source_count block + target_count block

  -- what the searches find
  abbrev vertex_found : ℕ
  vertex_found = lowest (bad_vertex_of rule block) vertex_count

  abbrev order_found : ℕ
  order_found = lowest (out_of_order rule) (source_count block)

  -- ---- a test that fails

  pub no_source : source_count block ≡ 0 → false ≡ sound_fixed side_capacity rule
  unfolding sound_fixed sizes_fit
  no_source h = simp (lt-leb 1 source_length (omega (arith, length-source block)))

  pub output-outside : all is_vertex rule.source_outputs ≡ false → false ≡ sound_fixed side_capacity rule
  unfolding sound_fixed sizes_fit
  output-outside f = simp (f, and-false)

  in_place : in_visiting_order rule ≡ true → (j : ℕ) → j < source_count block → out_of_order rule j ≡ false
  unfolding in_visiting_order out_of_order
  in_place t j l =
      simp (same_lists _ _ t, range_at source_length j source_length (omega (arith, length-source block)), eq-eqb j j refl)

  pub misplaced : order_found < source_count block → false ≡ sound_fixed side_capacity rule
  unfolding sound_fixed
  misplaced l =
      let wrong : in_visiting_order rule ≡ false =
      fails (λ t. true_not_false (lowest-holds (out_of_order rule) (source_count block) l) (in_place t order_found l)) in
      simp (wrong, and-false)

  pub outputs-unfit : outputs_fit rule ≡ false → false ≡ sound_fixed side_capacity rule
  unfolding sound_fixed
  outputs-unfit f = simp (f, and-false)

  pub source_uses_unfit : all_below (source_uses_fit rule) source_length ≡ false → false ≡ sound_fixed side_capacity rule
  unfolding sound_fixed
  source_uses_unfit f = simp (f, and-false)

module _ (block : List ℕ) (judged : Judgeable block) where
  -- ---- a record's bytes are judged as its vertex, since its unused places are as they are to be

  source_shaped : (j : ℕ) → j < source_count block → pattern_fits block (vertex_at j) ≡ pattern_shaped (source_of (rule block) j)
  unfolding pattern_fits pattern_shaped
  source_shaped j l =
      simp (
        source_kind_at block j l,
        source-operator-at block j l,
        source-count-at block j l,
        source-attributes-at block j l,
        judged.input_places j (omega arith),
        judged.attribute_places j (omega arith),
        and-true,
      )

  target_shaped : (t : ℕ) → t < target_count block
      → pattern_fits block (vertex_at (source_count block + t)) ≡ pattern_shaped (target_of (rule block) t)
  unfolding pattern_fits pattern_shaped
  target_shaped t l =
      simp (
        target_kind_at block t l,
        target-operator-at block t l,
        target-count-at block t l,
        target-attributes-at block t l,
        judged.input_places (source_count block + t) (omega arith),
        judged.attribute_places (source_count block + t) (omega arith),
        and-true,
      )

  source-judged : (j : ℕ) → j < source_count block → bad_vertex_of (rule block) block j ≡ not (source_fits block j)
  unfolding bad_vertex_of
  source-judged j l = simp (lt-ltb j (source_count block) l, source_shaped j l)

  target-judged : (t : ℕ) → t < target_count block → bad_vertex_of (rule block) block (source_count block + t) ≡ not (target_fits block t)
  unfolding bad_vertex_of
  target-judged t l =
      let back : source_count block + t - source_count block ≡ t = omega arith in
      simp (le-ltb (source_count block + t) (source_count block) (omega arith), target_shaped t l, back)

  pub bad_vertex-found : vertex_found block < vertex_count block → false ≡ sound_fixed side_capacity (rule block)
  unfolding sound_fixed
  bad_vertex-found l =
      let v = vertex_found block in
      let bad = lowest-holds (bad_vertex_of (rule block) block) (vertex_count block) l in
      ⊎_elim
      (λ (s : ltb v (source_count block) ≡ true).
      let inside = ltb-true v (source_count block) s in
      let part = all_below_fails (source_fits block) (source_length block) v (omega (arith, length-source block))
      (not-true (source_fits block v) (sym (source-judged v inside) ∙ bad)) in
      simp (part, and-false))
      (λ (s : ltb v (source_count block) ≡ false).
      let past = ltb-false v (source_count block) s in
      let t = v - source_count block in
      let inside : t < target_count block = omega arith in
      let same : source_count block + t ≡ v = omega arith in
      let part = all_below_fails (target_fits block) (target_length block) t (omega (arith, length-target block))
      (not-true (target_fits block t) (sym (target-judged t inside) ∙ rw same bad)) in
      simp (part, and-false))
      (decided (ltb v (source_count block)))

  -- ---- tests that passed

  module _ (inside : all (is_vertex block) (rule block).source_outputs ≡ true) (vertices : vertex_count block ≤ vertex_found block) where
    source_fits_lem : (j : ℕ) → j < source_count block → source_fits block j ≡ true
    source_fits_lem j l =
        not-false (source_fits block j)
        (sym (source-judged j l) ∙ lowest_passed (bad_vertex_of (rule block) block) (vertex_count block) j (omega arith))

    target_fits_lem : (t : ℕ) → t < target_count block → target_fits block t ≡ true
    target_fits_lem t l =
        not-false (target_fits block t)
        (sym (target-judged t l) ∙ lowest_passed (bad_vertex_of (rule block) block) (vertex_count block) (source_count block + t) (omega arith))

    lower_inputs_lem : (j : ℕ) → j < source_count block → source_inputs_fit (rule block) j ≡ true
    lower_inputs_lem j l = and_right (pattern_shaped (source_of (rule block) j)) (source_inputs_fit (rule block) j) (source_fits_lem j l)

    pub layers : LayeredRule block
    unfolding source_inputs_fit
    layers = record {
      readable = judged.readable;
      layered = record {
        lower = λ j i l m. ltb-true (get_or (source_inputs (rule block) j) i 255) j
            (all-at (λ p. ltb p j) 255 (source_inputs (rule block) j) i (lower_inputs_lem j l) m);
        outputs = λ i l.
            let o = get_or (rule block).source_outputs i 255 in
            let below = ltb-true o (source_length block)
            (all-at (is_vertex block) 255 (rule block).source_outputs i inside (omega (arith, length-source-outputs block))) in
            omega (arith, length-source block);
      };
    }

    module _ (order : source_count block ≤ order_found block) where
      in_order : in_visiting_order (rule block) ≡ true
      unfolding in_visiting_order
      in_order =
          let whole = traversal-whole (rule block)
          (lower_of (rule block) (λ j l. lower_inputs_lem j (omega (arith, length-source block))))
          (λ o m. ltb-true o (source_length block) (all-member (is_vertex block) inside m))
          (λ j l. lowest_passed (out_of_order (rule block)) (source_count block) j (omega (arith, length-source block))) in
          rw whole (same_self (range 0 (source_length block)))

      module _ (some : 1 ≤ source_count block) where
        sizes_good : sizes_fit side_capacity (rule block) ≡ true
        unfolding sizes_fit
        sizes_good =
            let r = rule block in
            let whole = judged.readable.whole in
            simp (
              le-leb 1 (source_length block) (omega (arith, length-source block)),
              le-leb (source_length block) side_capacity (omega (arith, length-source block, whole.source)),
              le-leb (target_length block) side_capacity (omega (arith, length-target block, whole.target)),
              le-leb 1 (length r.source_outputs) (omega (arith, length-source-outputs block, judged.some_output)),
              le-leb (length r.source_outputs) rule_output_limit (omega (arith, length-source-outputs block, whole.outputs)),
              eq-eqb (length r.target_outputs) (length r.source_outputs) (length-target-outputs block ∙ sym (length-source-outputs block)),
              inside,
            )

        -- the uses of the target's attributes are left
        pub uses_left : outputs_fit (rule block) ≡ true → all_below (source_uses_fit (rule block)) (source_length block) ≡ true
            → all_below (target_uses_fit (rule block)) (target_length block) ≡ sound_fixed side_capacity (rule block)
        unfolding sound_fixed
        uses_left outputs uses =
            simp (
              sizes_good,
              all_below_every (source_fits block) (source_length block) (λ j l. source_fits_lem j (omega (arith, length-source block))),
              all_below_every (target_fits block) (target_length block) (λ t l. target_fits_lem t (omega (arith, length-target block))),
              in_order,
              outputs,
              uses,
            )
