-- What a copy names on a side of the block is what it names in the block's variadic rule, and so the side's order is the rule's.
-- Assumes nothing.
use mathlib.Core.Path.{◌≡◌, refl, sym, ap, ap₂, ◌∙◌}
use mathlib.Core.Bool.{true, false, cond}
use mathlib.Core.List.Memᴰ
use mathlib.Core.List.{List, [], ◌∷◌, ◌++◌, map, Memᴰ}
use mathlib.Core.Logic.{⊎_elim}
use Prim.Native.Nat.{ℕ, zero, suc, ◌+◌, ◌-◌, ◌*◌, ◌/◌, ◌%◌, ◌<◌, ◌≤◌}
use native.Mathlib.Nat.{zero-add, sub-zero, mod-le, div-lt_iff_lt-mul}
use native.Mathlib.Omega.{arith}
use borrow.Author.Tests.{ltb-false, eqb-true, eqb-false, le-ltb}
use lib.Dec.{eqb, ltb}
use lib.ListN.{length, get_or, length-map}
use Rattle.definitions.specs.Lists.{tabulate, foldl, concat_map, member, range}
use Rattle.definitions.specs.Fields.{byte_at}
use Rattle.definitions.specs.Paths.{visit}
use Rattle.definitions.specs.Rule.{side_limit, target_base, source_count, target_count, rule_output_count, vertex_at, Origin, origin_by, origin_of, Pattern, attribute_in, pattern_from, rule_by, rule_of, wildcard, source_of, target_of, source_inputs}
use Rattle.definitions.specs.Variadic.{original, copy_index, made_of, VariadicRule, source_copy, origin_copy, fields, source_names, target_names, source_order, target_order}
use Rattle.definitions.specs.VariadicBlock.{unmarked, variadic_of}
use Rattle.laws.proofs.Lists.{decided}
use Rattle.laws.proofs.Members.{concat_mem, range_mem}
use Rattle.laws.proofs.Rule.{length-source, length-target, source-by, target-by}
use Rattle.variadic_order.specs.Sides.{place_count, place_of, side_copy, place_names, field_count, field_names, names_from, side_names, outputs_from, SideLayout, OutputLayout}
use Rattle.variadic_order.proofs.Fields.{copy-original, tuple-count, tuple-names, other_count, other_names_lem}
use Rattle.variadic_order.proofs.Flat.{row, row_same, concat-tabulate, concat_single, tuple-fields, other_fields}

-- ---- the rule of the block, without marks

same_inputs : {P : Type 0} (ps : List (Pattern P)) (j : ℕ) → (get_or (map unmarked ps) j wildcard).inputs ≡ (get_or ps j wildcard).inputs
unfolding unmarked wildcard
same_inputs [] j = refl
same_inputs (p ∷ ps) zero = refl
same_inputs (p ∷ ps) (suc j) = same_inputs ps j

module _ (block : List ℕ) where
  abbrev rule : VariadicRule
  rule = variadic_of block

  pub source-inputs : (v : ℕ) → v < source_count block
      → source_inputs rule.plain v ≡ tabulate (place_count block 0 v) (λ i. place_of block 0 v i)
  unfolding variadic_of source_of rule_of pattern_from
  source-inputs v l =
      same_inputs (rule_of block).source v ∙ ap (λ (p : Pattern ℕ). p.inputs) (source-by origin_of (attribute_in block) block v l)
      ∙ ap (λ (w : ℕ). tabulate (byte_at block (vertex_at w + 2)) (λ i. byte_at block (vertex_at w + 4 + i))) (sym (zero-add v))

  pub target-inputs : (v : ℕ) → v < target_count block
      → (target_of rule.plain v).inputs
      ≡ tabulate (place_count block (source_count block) v) (λ i. origin_of (place_of block (source_count block) v i))
  unfolding variadic_of target_of rule_of pattern_from
  target-inputs v l =
      same_inputs (rule_of block).target v ∙ ap (λ (p : Pattern Origin). p.inputs) (target-by origin_of (attribute_in block) block v l)

  -- ---- one field

  source-place : (n i p : ℕ) → place_names block 0 0 i p ≡ source_copy rule n i p ∷ []
  unfolding place_names side_copy source_copy variadic_of
  source-place n i p = rw (le-ltb p 0 (omega arith), sub-zero p, zero-add p)

  target-place : (n i p : ℕ) → place_names block (source_count block) target_base i p ≡ made_of (origin_copy rule n i (origin_of p))
  unfolding place_names side_copy origin_by origin_copy made_of variadic_of
  target-place n i p =
      ⊎_elim (λ (t : ltb p target_base ≡ true). rw t) (λ (t : ltb p target_base ≡ false). rw t) (decided (ltb p target_base))

-- ---- all fields of a copy

module _ (block : List ℕ) (first base tuple n c : ℕ) where
  abbrev field : ℕ → List ℕ
  field i = field_names block first base tuple n c i

  abbrev field_of : ℕ → ℕ → List ℕ
  field_of i j = place_names block first base i (place_of block first (original c) j)

  whole_row : row field (field_count block first base tuple n c) ≡ side_names block first base tuple n c
  unfolding row side_names names_from
  whole_row = refl

  module _ (r : VariadicRule) {P : Type 0} (naming : ℕ → P → P) (names : P → List ℕ) (place : ℕ → P)
      (each : (i j : ℕ) → names (naming i (place j)) ≡ field_of i j) where
    abbrev places : List P
    places = tabulate (place_count block first (original c)) place

    side_fields : concat_map names (fields r n (eqb c tuple) naming (copy_index c) places) ≡ side_names block first base tuple n c
    side_fields = ⊎_elim
        (λ (t : eqb c tuple ≡ true).
        let here : c ≡ tuple = eqb-true c tuple t in
        rw t
        (tuple-fields r n naming names place (place_count block first (original c)) (copy_index c)
        ∙ row_same (λ i. names (naming (suc (i % n)) (place (i / n)))) field (place_count block first (original c) * n)
        (λ i l. each (suc (i % n)) (i / n) ∙ sym (tuple-names block first base tuple n c here i))
        ∙ ap (row field) (sym (tuple-count block first base tuple n c here)) ∙ whole_row))
        (λ (t : eqb c tuple ≡ false).
        let other : c ≡ tuple → ⊥ = eqb-false c tuple t in
        rw t
        (other_fields r n naming names place (place_count block first (original c)) (copy_index c)
        ∙ row_same (λ i. names (naming (copy_index c) (place i))) field (place_count block first (original c))
        (λ i l. each (copy_index c) i ∙ sym (other_names_lem block first base tuple n c other i))
        ∙ ap (row field) (sym (other_count block first base tuple n c other)) ∙ whole_row))
        (decided (eqb c tuple))

module _ (block : List ℕ) (n c : ℕ) where
  pub source-names : original c < source_count block → side_names block 0 0 (byte_at block 14) n c ≡ source_names (rule block) n c
  unfolding source_names variadic_of
  source-names l =
      sym (side_fields block 0 0 (byte_at block 14) n c (rule block) (source_copy (rule block) n) (λ v. v ∷ [])
      (λ j. place_of block 0 (original c) j) (λ i j. sym (source-place block n i (place_of block 0 (original c) j))))
      ∙ concat_single (fields (rule block) n (eqb c (byte_at block 14)) (source_copy (rule block) n) (copy_index c)
      (tabulate (place_count block 0 (original c)) (λ j. place_of block 0 (original c) j)))
      ∙ ap (fields (rule block) n (eqb c (byte_at block 14)) (source_copy (rule block) n) (copy_index c)) (sym (source-inputs block (original c) l))

  pub target-names : original c < target_count block
      → side_names block (source_count block) target_base (byte_at block 15) n c ≡ concat_map made_of (target_names (rule block) n c)
  unfolding target_names variadic_of
  target-names l =
      let s = source_count block in
      sym (side_fields block s target_base (byte_at block 15) n c (rule block) (origin_copy (rule block) n) made_of
      (λ j. origin_of (place_of block s (original c) j)) (λ i j. sym (target-place block n i (place_of block s (original c) j))))
      ∙ ap (λ (ps : List Origin). concat_map made_of (fields (rule block) n (eqb c (byte_at block 15)) (origin_copy (rule block) n) (copy_index c) ps))
      (sym (target-inputs block (original c) l))

-- ---- names are copies of lower vertices

module _ (block : List ℕ) (first base vertices tuple n : ℕ) (layout : SideLayout block first base vertices) (some : 1 ≤ n) (c : ℕ)
    (vertex : original c < vertices) where
  place_lower : (i j u : ℕ) → j < place_count block first (original c)
      → Memᴰ u (place_names block first base i (place_of block first (original c) j)) → original u < original c
  unfolding place_names
  place_lower i j u l m =
      let p = place_of block first (original c) j in
      let below : p < base + original c = layout.lower (original c) j vertex l in ⊎_elim
      (λ (t : ltb p base ≡ true). absurd (Memᴰ.not-nil (rw t at m)))
      (λ (t : ltb p base ≡ false).
      let e : u ≡ side_copy block first i (p - base) = Memᴰ.eq_of_singleton (rw t at m) in
      let from : base ≤ p = ltb-false p base t in
      let small : p - base < side_limit = omega arith in
      rw (e, copy-original block first (p - base) i small) (omega arith))
      (decided (ltb p base))

  field_lower : (i u : ℕ) → i < field_count block first base tuple n c → Memᴰ u (field_names block first base tuple n c i)
      → original u < original c
  field_lower i u l m = ⊎_elim
      (λ (t : eqb c tuple ≡ true).
      let here : c ≡ tuple = eqb-true c tuple t in
      let inside : i < place_count block first (original c) * n = rw (tuple-count block first base tuple n c here) at l in
      place_lower (suc (i % n)) (i / n) u ((div-lt_iff_lt-mul some).1 inside) (rw (tuple-names block first base tuple n c here i) at m))
      (λ (t : eqb c tuple ≡ false).
      let other : c ≡ tuple → ⊥ = eqb-false c tuple t in
      place_lower (copy_index c) i u (rw (other_count block first base tuple n c other) at l)
      (rw (other_names_lem block first base tuple n c other i) at m))
      (decided (eqb c tuple))

  pub names_lower : (u : ℕ) → Memᴰ u (side_names block first base tuple n c) → original u < original c
  unfolding side_names names_from
  names_lower u m =
      let found = concat_mem (λ i. field_names block first base tuple n c i) (range 0 (field_count block first base tuple n c)) m in
      field_lower found.0 u (range_mem 0 (field_count block first base tuple n c) found.1).1 found.2

-- ---- visits that go by the same names

module _ (f h : ℕ → List ℕ) (Inside : ℕ → Type 0) (same : (v : ℕ) → Inside v → f v ≡ h v)
    (closed : (v u : ℕ) → Inside v → Memᴰ u (f v) → Inside u) where
  foldl_same : (p q : List ℕ → ℕ → List ℕ) (vs : List ℕ) → ((done : List ℕ) (v : ℕ) → Memᴰ v vs → p done v ≡ q done v)
      → (done : List ℕ) → foldl p done vs ≡ foldl q done vs
  unfolding foldl
  foldl_same p q [] e done = refl
  foldl_same p q (v ∷ vs) e done =
      ap (λ (l : List ℕ). foldl p l vs) (e done v (Memᴰ.head refl))
      ∙ foldl_same p q vs (λ l u m. e l u (Memᴰ.tail m)) (q done v)

  visit_same : (d : ℕ) (done : List ℕ) (v : ℕ) → Inside v → visit f d done v ≡ visit h d done v
  unfolding visit
  visit_same zero done v i = refl
  visit_same (suc d) done v i = ⊎_elim
      (λ (t : member v done ≡ true). rw t)
      (λ (t : member v done ≡ false).
      rw t (ap (λ (l : List ℕ). l ++ v ∷ [])
      (foldl_same (visit f d) (visit h d) (f v) (λ l u m. visit_same d l u (closed v u i m)) done
      ∙ ap (foldl (visit h d) done) (same v i))))
      (decided (member v done))

  pub visits_same : (d : ℕ) (vs : List ℕ) → ((v : ℕ) → Memᴰ v vs → Inside v) → foldl (visit f d) [] vs ≡ foldl (visit h d) [] vs
  visits_same d vs inside = foldl_same (visit f d) (visit h d) vs (λ l v m. visit_same d l v (inside v m)) []

-- ---- outputs

module _ (block : List ℕ) where
  -- an output that the side visits is one of its vertices
  output-inside : (at base vertices : ℕ) → OutputLayout block at base vertices → (u : ℕ) → Memᴰ u (outputs_from block at base 0)
      → original u < vertices
  unfolding outputs_from
  output-inside at base vertices layout u m =
      let found = concat_mem (λ k. let p = byte_at block (at + k) in cond (ltb p base) [] ((p - base) ∷ [])) (range 0 (rule_output_count block)) m in
      let p = byte_at block (at + found.0) in
      let below : p < base + vertices = layout.inside found.0 (range_mem 0 (rule_output_count block) found.1).1 in ⊎_elim
      (λ (t : ltb p base ≡ true). absurd (Memᴰ.not-nil (rw t at found.2)))
      (λ (t : ltb p base ≡ false).
      let e : u ≡ p - base = Memᴰ.eq_of_singleton (rw t at found.2) in
      omega (arith, ltb-false p base t, mod-le u side_limit))
      (decided (ltb p base))

  pub source-outputs : outputs_from block 10 0 0 ≡ (rule block).plain.source_outputs
  unfolding outputs_from variadic_of rule_of rule_by row
  source-outputs =
      let count = rule_output_count block in
      row_same (λ k. let p = byte_at block (10 + k) in cond (ltb p 0) [] ((p - 0) ∷ [])) (λ k. byte_at block (10 + k) ∷ []) count
      (λ k l. let p = byte_at block (10 + k) in rw (le-ltb p 0 (omega arith), sub-zero p))
      ∙ sym (concat-tabulate (λ v. v ∷ []) count (λ i. byte_at block (10 + i)))
      ∙ concat_single (tabulate count (λ i. byte_at block (10 + i)))

  target-outputs : outputs_from block 12 target_base 0 ≡ concat_map made_of (rule block).plain.target_outputs
  unfolding outputs_from variadic_of rule_of rule_by row origin_by made_of
  target-outputs =
      let count = rule_output_count block in
      row_same (λ k. let p = byte_at block (12 + k) in cond (ltb p target_base) [] ((p - target_base) ∷ []))
      (λ k. made_of (origin_of (byte_at block (12 + k)))) count
      (λ k l. let p = byte_at block (12 + k) in
      ⊎_elim (λ (t : ltb p target_base ≡ true). rw t) (λ (t : ltb p target_base ≡ false). rw t) (decided (ltb p target_base)))
      ∙ sym (concat-tabulate made_of count (λ i. origin_of (byte_at block (12 + i))))

-- ---- the orders

module _ (block : List ℕ) (n : ℕ) (some : 1 ≤ n) where
  module _ (layout : SideLayout block 0 0 (source_count block)) (outputs : OutputLayout block 10 0 (source_count block)) where
    pub source-order : foldl (visit (side_names block 0 0 (byte_at block 14) n) (source_count block)) [] (outputs_from block 10 0 0)
        ≡ source_order (rule block) n
    unfolding source_order
    source-order =
        let s = source_count block in
        let names = side_names block 0 0 (byte_at block 14) n in
        let size : length (rule block).plain.source ≡ s =
        unfold variadic_of in length-map (rule_of block).source unmarked ∙ length-source block in
        visits_same names (source_names (rule block) n) (λ c. original c < s) (λ c l. source-names block n c l)
        (λ c u l m. omega (arith, names_lower block 0 0 s (byte_at block 14) n layout some c l u m)) s (outputs_from block 10 0 0)
        (output-inside block 10 0 s outputs)
        ∙ ap₂ (λ (d : ℕ) (vs : List ℕ). foldl (visit (source_names (rule block) n) d) [] vs) (sym size) (source-outputs block)

  module _ (layout : SideLayout block (source_count block) target_base (target_count block))
      (outputs : OutputLayout block 12 target_base (target_count block)) where
    pub target-order : foldl (visit (side_names block (source_count block) target_base (byte_at block 15) n) (target_count block)) []
        (outputs_from block 12 target_base 0) ≡ target_order (rule block) n
    unfolding target_order
    target-order =
        let s = source_count block in
        let t = target_count block in
        let names = side_names block s target_base (byte_at block 15) n in
        let size : length (rule block).plain.target ≡ t =
        unfold variadic_of in length-map (rule_of block).target unmarked ∙ length-target block in
        visits_same names (λ c. concat_map made_of (target_names (rule block) n c)) (λ c. original c < t)
        (λ c l. target-names block n c l)
        (λ c u l m. omega (arith, names_lower block s target_base t (byte_at block 15) n layout some c l u m)) t (outputs_from block 12 target_base 0)
        (output-inside block 12 target_base t outputs)
        ∙ ap₂ (λ (d : ℕ) (vs : List ℕ). foldl (visit (λ c. concat_map made_of (target_names (rule block) n c)) d) [] vs) (sym size)
        (target-outputs block)
