-- A sound variadic block: its source is as the proofs about templates take it, and 35 is the least n whose fixed rule is not sound.
-- The reply to a version 2 block is done exactly for these.
-- Assumes nothing.
use mathlib.Core.Path.{◌≡◌, refl, sym, ap, ◌∙◌}
use mathlib.Core.Bool.{Bool, true, false, cond, not, ◌&&◌, and-false}
use mathlib.Core.List.{List, ◌∷◌, Memᴰ}
use mathlib.Core.Logic.{◌⊎◌, inl, inr, ⊎_elim}
use mathlib.Core.Option.{Option, none, some, none-ne-some}
use Prim.Native.Nat.{ℕ, ◌+◌, ◌-◌, ◌<◌, ◌≤◌}
use native.Mathlib.Omega.{arith}
use borrow.Author.Tests.{leb-true, ltb-true, lt-ltb, le-ltb, eqb-true, eq-eqb, not-true, not-false}
use lib.Dec.{eqb, ltb, leb}
use lib.ListN.{length, get_or, length-map}
use Rattle.definitions.specs.Lists.{all_below, lowest, any, range}
use Rattle.definitions.specs.Fields.{byte_at}
use Rattle.definitions.specs.Operators.{kind_tuple}
use Rattle.definitions.specs.Paths.{Reads}
use Rattle.definitions.specs.Reply.{done, Fault, fault, flag, place, judged}
use Rattle.definitions.specs.Rule.{side_limit, source_count, target_count, rule_output_count, node_count, vertex_at, rule_of, source_of, source_inputs, rule_sizes_fit, rule_output_places_fit, source_inputs_fit, target_inputs_fit, traversal, out_of_order, outputs_fit, rule_by}
use Rattle.definitions.specs.FixedRule.{SoundFixed}
use Rattle.definitions.specs.Variadic.{VariadicRule, expansion}
use Rattle.definitions.specs.VariadicBlock.{field_limit, expanded_limit, variadic_of, unmarked, variadic_header_fits, marked_pattern_fits, templates_fit, source_templates_fit, target_templates_fit, shared_outputs, bad_variadic_vertex, bad_variadic_node, variadic_use_fits, bad_variadic_use, is_bad_expansion, variadic_faults, variadic_reply, SoundVariadic}
use Rattle.laws.proofs.Lists.{decided, true_not_false, fails, and_left, and_right, needed, any-member, all_below_at, all_below_every, lowest-whole, lowest_passed, lowest-holds}
use Rattle.laws.proofs.Members.{mem_range, tabulate_mem}
use Rattle.laws.proofs.Faults.{by_place}
use Rattle.laws.proofs.Ranges.{range_at}
use Rattle.laws.proofs.Reply.{done_or_refused}
use Rattle.laws.proofs.Rule.{source-reader, length-source}
use Rattle.theory.proofs.Fixing.{traversal_every}
use Rattle.rule_order.proofs.Laws.{in_place}
use Rattle.rule_order.proofs.Once.{traversal-whole}
use Rattle.variadic.specs.Templated.{Templated}
use Rattle.rule_sound.proofs.Sound.{lower_of, only_sound, every_sound}

-- a test that fails for all elements fails for each
none_in : (p : ℕ → Bool) (xs : List ℕ) {x : ℕ} → any p xs ≡ false → Memᴰ x xs → p x ≡ false
none_in p xs h m = fails (λ t. true_not_false (any-member p m t) h)

module _ (block : List ℕ) (s : SoundVariadic block) where
  abbrev r : VariadicRule
  r = variadic_of block

  source-size : length r.plain.source ≡ source_count block
  unfolding variadic_of
  source-size = length-map (rule_of block).source unmarked ∙ length-source block

  few : source_count block ≤ side_limit
  unfolding variadic_header_fits rule_sizes_fit
  few = leb-true (source_count block) side_limit (needed (leb (source_count block) side_limit) s.header (λ f. simp (f, and-false)))

  tuple-inside : r.source_tuple < source_count block
  unfolding variadic_header_fits variadic_of
  tuple-inside = ltb-true (byte_at block 14) (source_count block)
      (needed (ltb (byte_at block 14) (source_count block)) s.header (λ f. simp (f, and-false)))

  lower : (j u : ℕ) → Reads (source_inputs r.plain) j u → u < j
  lower = lower_of r.plain (λ j l. s.lower_inputs j (rw source-size at l))

  named : (j u : ℕ) → Reads (source_inputs r.plain) j u → r.source_template u ≡ true
      → (j ≡ r.source_tuple) ⊎ (r.source_template j ≡ true)
  unfolding source_templates_fit templates_fit
  named j u e t =
      let inside : j < source_count block = rw source-size at (source-reader r.plain j u e) in
      let fits = s.source_templates j inside in
      ⊎_elim (λ (h : eqb j r.source_tuple ≡ true). inl (eqb-true j r.source_tuple h))
      (λ (h : eqb j r.source_tuple ≡ false).
      ⊎_elim (λ (k : r.source_template j ≡ true). inr k)
      (λ (k : r.source_template j ≡ false).
      absurd (true_not_false t (none_in r.source_template (source_inputs r.plain j)
      (not-true _ (simp (h, k) at fits)) e)))
      (decided (r.source_template j)))
      (decided (eqb j r.source_tuple))

  tuple-fits : (not (r.source_template r.source_tuple) && eqb (source_of r.plain r.source_tuple).kind kind_tuple
      && eqb (length (source_inputs r.plain r.source_tuple)) 1) ≡ true
  unfolding source_templates_fit templates_fit
  tuple-fits = simp (eq-eqb r.source_tuple r.source_tuple refl) at (s.source_templates r.source_tuple tuple-inside)

  pub templated : Templated r
  unfolding shared_outputs
  templated = record {
    few = rw source-size few;
    lower = lower;
    read = λ v l. traversal_every r.plain v (rw s.order (mem_range 0 (source_count block) v (omega arith) (rw source-size at l)));
    named = named;
    shared_outputs = λ o m. none_in r.source_template r.plain.source_outputs
        (not-true _ (needed (not (any r.source_template r.plain.source_outputs)) s.shared (λ f. simp f))) m;
    tuple_inside = rw source-size tuple-inside;
    tuple_shared = not-true _ (needed (not (r.source_template r.source_tuple)) tuple-fits (λ f. simp f));
    tuple_kind = eqb-true _ _ (needed (eqb (source_of r.plain r.source_tuple).kind kind_tuple) tuple-fits (λ f. simp (f, and-false)));
    tuple_field = eqb-true _ _ (needed (eqb (length (source_inputs r.plain r.source_tuple)) 1) tuple-fits (λ f. simp (f, and-false)));
  }

-- ---- 35

module _ (block : List ℕ) where
  abbrev Fits : ℕ → Type 0
  Fits n = SoundFixed expanded_limit (expansion (variadic_of block) n)

  fits-good : (n : ℕ) → Fits n → is_bad_expansion block n ≡ false
  unfolding is_bad_expansion
  fits-good n s = simp (every_sound expanded_limit (expansion (variadic_of block) n) s, and-false)

  good-fits : (n : ℕ) → 1 ≤ n → is_bad_expansion block n ≡ false → Fits n
  unfolding is_bad_expansion
  good-fits n l h = only_sound expanded_limit (expansion (variadic_of block) n) (not-false _ (simp (lt-ltb 0 n l) at h))

  bad_some : (n : ℕ) → is_bad_expansion block n ≡ true → 1 ≤ n
  unfolding is_bad_expansion
  bad_some n h = ltb-true 0 n (needed (ltb 0 n) h (λ f. simp f))

  -- no fault: the fixed rule is sound for every n from 1 to 6
  pub no_35 : field_limit < lowest (is_bad_expansion block) (field_limit + 1) → (n : ℕ) → 1 ≤ n → n ≤ field_limit → Fits n
  no_35 h n l m = good-fits n l (lowest_passed (is_bad_expansion block) (field_limit + 1) n (omega arith))

  -- the fault's place is the least n whose fixed rule is not sound
  pub least_35 : (n : ℕ) → lowest (is_bad_expansion block) (field_limit + 1) ≡ n → n < field_limit + 1
      → (1 ≤ n) × (Fits n → ⊥) × ((m : ℕ) → 1 ≤ m → m < n → Fits m)
  least_35 n e l =
      let bad : is_bad_expansion block n ≡ true = rw e at (lowest-holds (is_bad_expansion block) (field_limit + 1) (rw e l)) in (
        bad_some n bad,
        λ s. true_not_false bad (fits-good n s),
        λ m k b. good-fits m k (lowest_passed (is_bad_expansion block) (field_limit + 1) m (rw e b)),
      )

-- ---- no fault exactly where the block is a sound variadic rule

-- where a list of faults has none, its first is none, and the rest has none
none_first : (n : ℕ) (found : Option ℕ) (faults : List Fault) → judged (fault n found ∷ faults) ≡ done
    → (found ≡ none) × (judged faults ≡ done)
unfolding judged
none_first n none faults h = (refl, h)
none_first n (some at) faults h = absurd (done_or_refused n at (sym h))

flag_none : (holds : Bool) → flag holds ≡ none → holds ≡ false
unfolding flag
flag_none true h = absurd (none-ne-some 0 (sym h))
flag_none false h = refl

place_none : (n found : ℕ) → place n found ≡ none → n ≤ found
unfolding place
place_none n found h = by_place n found (λ l. absurd (none-ne-some found (sym (rw (lt-ltb found n l) at h)))) (λ l. l)

module _ (block : List ℕ) where
  abbrev rule : VariadicRule
  rule = variadic_of block

  abbrev vertices : ℕ
  vertices = source_count block + target_count block

  -- what the lack of each kind of fault says
  record Faultless : Type 0 where
    header : variadic_header_fits block ≡ true
    records : vertices ≤ lowest (bad_variadic_vertex block) vertices
    order : source_count block ≤ lowest (out_of_order rule.plain) (source_count block)
    outputs : (outputs_fit rule.plain && shared_outputs rule) ≡ true
    nodes : node_count block ≤ lowest (bad_variadic_node block) (node_count block)
    uses : vertices ≤ lowest (bad_variadic_use block) vertices
    expansions : field_limit + 1 ≤ lowest (is_bad_expansion block) (field_limit + 1)

  faultless : variadic_reply block ≡ done → Faultless
  unfolding variadic_reply variadic_faults
  faultless h =
      let h₁ = none_first _ _ _ h in
      let h₂ = none_first _ _ _ h₁.1 in
      let h₃ = none_first _ _ _ h₂.1 in
      let h₄ = none_first _ _ _ h₃.1 in
      let h₅ = none_first _ _ _ h₄.1 in
      let h₆ = none_first _ _ _ h₅.1 in
      let h₇ = none_first _ _ _ h₆.1 in
      record {
        header = not-false _ (flag_none _ h₁.0);
        records = place_none _ _ h₂.0;
        order = place_none _ _ h₃.0;
        outputs = not-false _ (flag_none _ h₄.0);
        nodes = place_none _ _ h₅.0;
        uses = place_none _ _ h₆.0;
        expansions = place_none _ _ h₇.0;
      }

  plain_size : length rule.plain.source ≡ source_count block
  unfolding variadic_of
  plain_size = length-map (rule_of block).source unmarked ∙ length-source block

  module _ (f : Faultless) where
    good : (v : ℕ) → v < vertices → (marked_pattern_fits block (vertex_at v)
        && cond (ltb v (source_count block)) (source_inputs_fit rule.plain v && source_templates_fit rule v)
        (target_inputs_fit rule.plain (v - source_count block) && target_templates_fit rule (v - source_count block))) ≡ true
    unfolding bad_variadic_vertex
    good v l = not-false _ (lowest_passed (bad_variadic_vertex block) vertices v (omega (arith, f.records)))

    source-good : (j : ℕ) → j < source_count block → (source_inputs_fit rule.plain j && source_templates_fit rule j) ≡ true
    source-good j l =
        needed (source_inputs_fit rule.plain j && source_templates_fit rule j) (good j (omega arith))
        (λ e. simp (lt-ltb j (source_count block) l, e, and-false))

    target-good : (t : ℕ) → t < target_count block → (target_inputs_fit rule.plain t && target_templates_fit rule t) ≡ true
    target-good t l =
        let v = source_count block + t in
        let same : source_count block + t - source_count block ≡ t = omega arith in
        needed (target_inputs_fit rule.plain t && target_templates_fit rule t) (good v (omega arith))
        (λ e. simp (le-ltb v (source_count block) (omega arith), same, e, and-false))

    lower_inputs_lem : (j : ℕ) → j < source_count block → source_inputs_fit rule.plain j ≡ true
    lower_inputs_lem j l = and_left (source_inputs_fit rule.plain j) (source_templates_fit rule j) (source-good j l)

    output-inside : (o : ℕ) → Memᴰ o rule.plain.source_outputs → o < length rule.plain.source
    unfolding variadic_header_fits variadic_of rule_output_places_fit rule_by rule_of
    output-inside o m =
        let below : ℕ → Bool = λ i. ltb (byte_at block (10 + i)) (source_count block) in
        let listed = needed (all_below below (rule_output_count block)) f.header (λ e. simp (e, and-false)) in
        let found = tabulate_mem (rule_output_count block) (λ i. byte_at block (10 + i)) m in
        rw (plain_size, found.2) (ltb-true _ _ (all_below_at below (rule_output_count block) found.0 listed found.1))

    ordered : traversal rule.plain ≡ range 0 (source_count block)
    ordered =
        traversal-whole rule.plain (lower_of rule.plain (λ j l. lower_inputs_lem j (rw plain_size at l))) output-inside
        (λ j l. lowest_passed (out_of_order rule.plain) (source_count block) j (omega (arith, f.order, plain_size)))
        ∙ ap (range 0) plain_size

    use_fits_lem : (v i : ℕ) → v < vertices → i < byte_at block (vertex_at v + 3)
        → variadic_use_fits block v (byte_at block (vertex_at v + 10 + i)) ≡ true
    unfolding bad_variadic_use
    use_fits_lem v i l m =
        all_below_at (λ k. variadic_use_fits block v (byte_at block (vertex_at v + 10 + k))) (byte_at block (vertex_at v + 3)) i
        (not-false _ (lowest_passed (bad_variadic_use block) vertices v (omega (arith, f.uses)))) m

  -- done for sound variadic rules alone
  pub only_variadic : variadic_reply block ≡ done → SoundVariadic block
  unfolding bad_variadic_node
  only_variadic h =
      let f = faultless h in
      record {
        header = f.header;
        patterns = λ v l. needed (marked_pattern_fits block (vertex_at v)) (good f v l) (λ e. simp e);
        lower_inputs = lower_inputs_lem f;
        named_inputs = λ t l. and_left (target_inputs_fit rule.plain t) (target_templates_fit rule t) (target-good f t l);
        source_templates = λ j l. and_right (source_inputs_fit rule.plain j) (source_templates_fit rule j) (source-good f j l);
        target_templates = λ t l. and_right (target_inputs_fit rule.plain t) (target_templates_fit rule t) (target-good f t l);
        order = ordered f;
        outputs = and_left (outputs_fit rule.plain) (shared_outputs rule) f.outputs;
        shared = and_right (outputs_fit rule.plain) (shared_outputs rule) f.outputs;
        nodes = λ k l. not-false _ (lowest_passed (bad_variadic_node block) (node_count block) k (omega (arith, f.nodes)));
        uses = use_fits_lem f;
        expansions = no_35 block f.expansions;
      }

  module _ (s : SoundVariadic block) where
    vertex-good : (v : ℕ) → v < vertices → bad_variadic_vertex block v ≡ false
    unfolding bad_variadic_vertex
    vertex-good v l = by_place (source_count block) v
        (λ below. simp (s.patterns v l, lt-ltb v (source_count block) below, s.lower_inputs v below, s.source_templates v below))
        (λ past.
        let t = v - source_count block in
        let below : t < target_count block = omega arith in
        simp (s.patterns v l, le-ltb v (source_count block) past, s.named_inputs t below, s.target_templates t below))

    order-good : (j : ℕ) → j < source_count block → out_of_order rule.plain j ≡ false
    order-good j l =
        in_place rule.plain j
        (ap (λ (xs : List ℕ). get_or xs j (length rule.plain.source)) s.order ∙ range_at (source_count block) j _ l)

    node-good : (k : ℕ) → k < node_count block → bad_variadic_node block k ≡ false
    unfolding bad_variadic_node
    node-good k l = simp (s.nodes k l)

    use_good : (v : ℕ) → v < vertices → bad_variadic_use block v ≡ false
    unfolding bad_variadic_use
    use_good v l =
        let fits : ℕ → Bool = λ i. variadic_use_fits block v (byte_at block (vertex_at v + 10 + i)) in
        simp (all_below_every fits (byte_at block (vertex_at v + 3)) (λ i m. s.uses v i l m))

    expansion-good : (n : ℕ) → n < field_limit + 1 → is_bad_expansion block n ≡ false
    unfolding is_bad_expansion
    expansion-good n l =
        ⊎_elim (λ (t : ltb 0 n ≡ true). fits-good block n (s.expansions n (ltb-true 0 n t) (omega arith)))
        (λ (t : ltb 0 n ≡ false). simp t)
        (decided (ltb 0 n))

    -- and for every one
    pub every_variadic : variadic_reply block ≡ done
    unfolding variadic_reply variadic_faults flag place judged
    every_variadic =
        simp (
          s.header,
          le-ltb _ _ (lowest-whole (bad_variadic_vertex block) vertices vertex-good),
          le-ltb _ _ (lowest-whole (out_of_order rule.plain) (source_count block) order-good),
          s.outputs,
          s.shared,
          le-ltb _ _ (lowest-whole (bad_variadic_node block) (node_count block) node-good),
          le-ltb _ _ (lowest-whole (bad_variadic_use block) vertices use_good),
          le-ltb _ _ (lowest-whole (is_bad_expansion block) (field_limit + 1) expansion-good),
        )
