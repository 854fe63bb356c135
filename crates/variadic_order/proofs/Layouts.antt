-- The sides of a block whose header, records and outputs fit are laid out as their orders ask.
-- Assumes nothing.
use mathlib.Core.Path.{◌≡◌, sym, ap, ◌∙◌}
use mathlib.Core.Bool.{Bool, true, false, and-false}
use mathlib.Core.List.{List}
use mathlib.Core.Logic.{⊎_elim}
use Prim.Native.Nat.{ℕ, ◌+◌, ◌-◌, ◌%◌, ◌<◌, ◌≤◌}
use native.Mathlib.Omega.{arith}
use borrow.Author.Tests.{leb-true, ltb-true, ltb-false, eqb-true}
use lib.Dec.{eqb, ltb, leb}
use lib.ListN.{length, length-map}
use Rattle.definitions.specs.Lists.{all_below, all, tabulate}
use Rattle.definitions.specs.Fields.{byte_at}
use Rattle.definitions.specs.Operators.{shape_fits}
use Rattle.definitions.specs.Rule.{side_limit, target_base, rule_output_limit, source_count, target_count, rule_output_count, node_count, vertex_at, node_at, made, origin_by, origin_of, Rule, rule_of, target_of, rule_sizes_fit, rule_output_places_fit, origin_fits, source_inputs_fit, target_inputs_fit, outputs_fit}
use Rattle.definitions.specs.VariadicBlock.{template_mark, variadic_of, unmarked, variadic_header_fits, marked_pattern_fits}
use Rattle.laws.proofs.Lists.{decided, needed, length-tabulate, get_or_tabulate, all-at, all_below_at}
use Rattle.laws.proofs.Operators.{few_inputs_lem}
use Rattle.laws.proofs.Rule.{length-target, length-target-outputs, target-output_of}
use Rattle.variadic_order.specs.Sides.{place_count, place_of, SideLayout, OutputLayout}
use Rattle.variadic_order.proofs.Sides.{source-inputs, target-inputs}

-- a test that holds of all elements of a list that is given by their numbers
each : {A : Type 0} (p : A → Bool) (m : ℕ) (f : ℕ → A) (i : ℕ) → all p (tabulate m f) ≡ true → i < m → p (f i) ≡ true
each p m f i h l =
    ap p (sym (get_or_tabulate m f i (f i) l)) ∙ all-at p (f i) (tabulate m f) i h (rw (length-tabulate m f) l)

-- a place of the target that fits names a rule input, or a target vertex below t
place_below_lem : (r : Rule) (t p : ℕ) → origin_fits r t (origin_of p) ≡ true → p < target_base + t
unfolding origin_fits origin_by
place_below_lem r t p h =
    ⊎_elim (λ (e : ltb p target_base ≡ true). omega (arith, ltb-true p target_base e))
    (λ (e : ltb p target_base ≡ false). omega (arith, ltb-false p target_base e, ltb-true (p - target_base) t (rw e at h)))
    (decided (ltb p target_base))

module _ (block : List ℕ) (header : variadic_header_fits block ≡ true) where
  size : vertex_at (source_count block + target_count block) ≤ length block
  unfolding variadic_header_fits
  size =
      let whole : length block ≡ node_at block (node_count block) =
      eqb-true (length block) (node_at block (node_count block)) (needed (eqb (length block) (node_at block (node_count block))) header (λ f. simp f)) in
      omega arith

  few_sources_lem : source_count block ≤ side_limit
  unfolding variadic_header_fits rule_sizes_fit
  few_sources_lem = leb-true (source_count block) side_limit (needed (leb (source_count block) side_limit) header (λ f. simp (f, and-false)))

  few_targets_lem : target_count block ≤ side_limit
  unfolding variadic_header_fits rule_sizes_fit
  few_targets_lem = leb-true (target_count block) side_limit (needed (leb (target_count block) side_limit) header (λ f. simp (f, and-false)))

  few_outputs_lem : rule_output_count block ≤ rule_output_limit
  unfolding variadic_header_fits rule_sizes_fit
  few_outputs_lem =
      leb-true (rule_output_count block) rule_output_limit
      (needed (leb (rule_output_count block) rule_output_limit) header (λ f. simp (f, and-false)))

  pub source-output_layout : OutputLayout block 10 0 (source_count block)
  unfolding variadic_header_fits rule_output_places_fit
  source-output_layout =
      let below : ℕ → Bool = λ k. ltb (byte_at block (10 + k)) (source_count block) in
      let listed = needed (all_below below (rule_output_count block)) header (λ f. simp (f, and-false)) in
      record {
        count = few_outputs_lem;
        inside = λ i l. omega (arith, ltb-true (byte_at block (10 + i)) (source_count block) (all_below_at below (rule_output_count block) i listed l));
      }

  pub target-output_layout : outputs_fit (variadic_of block).plain ≡ true → OutputLayout block 12 target_base (target_count block)
  unfolding outputs_fit variadic_of
  target-output_layout fits =
      let r = (variadic_of block).plain in
      let places = (rule_of block).target_outputs in
      let listed = needed (all (origin_fits r (length r.target)) places) fits (λ f. simp (f, and-false)) in
      let count : length r.target ≡ target_count block = length-map (rule_of block).target unmarked ∙ length-target block in
      record {
        count = few_outputs_lem;
        inside = λ i l.
            let here : origin_fits r (length r.target) (origin_of (byte_at block (12 + i))) ≡ true =
            ap (origin_fits r (length r.target)) (sym (target-output_of block i (made 0) l))
            ∙ all-at (origin_fits r (length r.target)) (made 0) places i listed (rw (length-target-outputs block) l) in
            omega (arith, place_below_lem r (length r.target) (byte_at block (12 + i)) here);
      }

  module _ (patterns : (v : ℕ) → v < source_count block + target_count block → marked_pattern_fits block (vertex_at v) ≡ true) where
    few_places : (v : ℕ) → v < source_count block + target_count block → byte_at block (vertex_at v + 2) ≤ 6
    unfolding marked_pattern_fits
    few_places v l =
        let at = vertex_at v in
        let kind = byte_at block at % template_mark in
        few_inputs_lem kind (byte_at block (at + 1)) (byte_at block (at + 2)) (byte_at block (at + 3))
        (needed (shape_fits kind (byte_at block (at + 1)) (byte_at block (at + 2)) (byte_at block (at + 3))) (patterns v l) (λ f. simp f))

    pub source_layout : ((j : ℕ) → j < source_count block → source_inputs_fit (variadic_of block).plain j ≡ true)
        → SideLayout block 0 0 (source_count block)
    unfolding source_inputs_fit
    source_layout fits = record {
      size = omega (arith, size);
      few = few_sources_lem;
      inputs = λ u l. few_places (0 + u) (omega arith);
      lower = λ u i l k.
          let listed : all (λ p. ltb p u) (tabulate (place_count block 0 u) (place_of block 0 u)) ≡ true =
          rw (source-inputs block u l) at (fits u l) in
          omega (arith, ltb-true (place_of block 0 u i) u (each (λ p. ltb p u) (place_count block 0 u) (place_of block 0 u) i listed k));
    }

    pub target_layout : ((t : ℕ) → t < target_count block → target_inputs_fit (variadic_of block).plain t ≡ true)
        → SideLayout block (source_count block) target_base (target_count block)
    unfolding target_inputs_fit
    target_layout fits = record {
      size = size;
      few = few_targets_lem;
      inputs = λ u l. few_places (source_count block + u) (omega arith);
      lower = λ u i l k.
          let s = source_count block in
          let r = (variadic_of block).plain in
          let listed = needed (all (origin_fits r u) (target_of r u).inputs) (fits u l) (λ f. simp (f, and-false)) in
          place_below_lem r u (place_of block s u i)
          (each (origin_fits r u) (place_count block s u) (λ j. origin_of (place_of block s u j)) i (rw (target-inputs block u l) at listed) k);
    }
