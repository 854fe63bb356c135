-- What the version 1 block of a version 2 block holds, byte by byte, and the rule for which it stands: the variadic rule's, without its templates.
-- Assumes nothing.
use mathlib.Core.Path.{◌≡◌, refl, sym, ap, ap₂, ◌∙◌}
use mathlib.Core.Bool.{Bool, true, false, not, ◌&&◌, and-false}
use mathlib.Core.List.{List, [], ◌∷◌}
use mathlib.Core.Logic.{⊎_elim}
use Prim.Native.Nat.{ℕ, zero, suc, ◌+◌, ◌-◌, ◌*◌, ◌%◌, ◌<◌, ◌≤◌}
use native.Mathlib.Omega.{arith}
use borrow.Author.Tests.{lt-ltb, le-ltb, ltb-true, ltb-false, eqb-true, eq-eqb, ne_eqb, leb-true}
use lib.Dec.{eqb, ltb, leb}
use lib.ListN.{length, get_or, get_or-eq_default}
use Rattle.definitions.specs.Lists.{tabulate, build, all, all_below}
use Rattle.definitions.specs.Fields.{byte_at, u16_at, u32_at, filled, mark_fits}
use Rattle.definitions.specs.Graph.{input_limit, attribute_limit}
use Rattle.definitions.specs.Rule.{side_limit, rule_letter, rule_version, source_count, target_count, rule_output_count, node_count, vertex_at, node_at, Expression, anything, Origin, given, made, Pattern, Rule, input_kind, origin_of, node_form, node_from, node_by, expressions, expression_of, pattern_from, attribute_in, rule_by, rule_of, source_of, target_of, is_rule_input, origin_fits, source_inputs_fit, target_inputs_fit, rule_sizes_fit, rule_output_places_fit, rule_header_fits, pattern_fits}
use Rattle.definitions.specs.VariadicBlock.{template_mark, unmarked, variadic_of, marked_pattern_fits, variadic_header_fits}
use Rattle.laws.proofs.Lists.{decided, needed, length-tabulate, get_or_tabulate}
use Rattle.laws.proofs.Rule.{length-source, source-by, target-by, source_kind_at}
use Rattle.variadic_header.proofs.Vertices.{sources, targets, length-sources, source-at, target_at}
use Rattle.variadic_plain.specs.Plain.{plain_header_byte, plain_byte, plain_block}

-- ---- tests and lists that are the same below a number

same_below : {p q : ℕ → Bool} (n : ℕ) → ((k : ℕ) → k < n → p k ≡ q k) → all_below p n ≡ all_below q n
unfolding all_below
same_below zero e = refl
same_below (suc n) e = ap₂ ◌&&◌ (same_below n (λ k l. e k (omega arith))) (e n (omega arith))

module _ {A : Type 0} where
  same_tabulate : {f h : ℕ → A} (n : ℕ) → ((k : ℕ) → k < n → f k ≡ h k) → tabulate n f ≡ tabulate n h
  unfolding tabulate
  same_tabulate zero e = refl
  same_tabulate {f = f} {h = h} (suc n) e =
      ap₂ ◌∷◌ (e zero (omega arith))
      (same_tabulate {f = λ k. f (suc k)} {h = λ k. h (suc k)} n (λ k l. e (suc k) (omega arith)))

  same_build : (f h : List A → ℕ → A) → ((before : List A) (k : ℕ) → f before k ≡ h before k) → (n : ℕ) → build f n ≡ build h n
  unfolding build
  same_build f h e zero = refl
  same_build f h e (suc n) = simp (same_build f h e n, e)

same_all : {A : Type 0} {p q : A → Bool} (xs : List A) → ((x : A) → p x ≡ q x) → all p xs ≡ all q xs
unfolding all
same_all [] e = refl
same_all (x ∷ xs) e = ap₂ ◌&&◌ (e x) (same_all xs e)

same_rule : {r q : Rule} → r.source ≡ q.source → r.target ≡ q.target → r.source_outputs ≡ q.source_outputs
    → r.target_outputs ≡ q.target_outputs → r ≡ q
same_rule a b c d = λ i. record { source = a i; target = b i; source_outputs = c i; target_outputs = d i }

-- ---- bytes

module _ (block : List ℕ) where
  abbrev plain : List ℕ
  plain = plain_block block

  pub plain-length : length plain ≡ length block
  unfolding plain_block
  plain-length = length-tabulate (length block) (plain_byte block)

  plain-inside : (at : ℕ) → at < length block → byte_at plain at ≡ plain_byte block at
  unfolding plain_block
  plain-inside at l = get_or_tabulate (length block) (plain_byte block) at 0 l

  -- past the block, both have no byte
  plain_past : (at : ℕ) → length block ≤ at → (byte_at plain at ≡ 0) × (byte_at block at ≡ 0)
  plain_past at l = (
    get_or-eq_default {A = ℕ} plain 0 (rw plain-length l),
    get_or-eq_default {A = ℕ} block 0 l,
  )

  module _ (at : ℕ) where
    -- a byte that is as it was
    kept : plain_byte block at ≡ byte_at block at → byte_at plain at ≡ byte_at block at
    kept e =
        ⊎_elim (λ (t : ltb at (length block) ≡ true). plain-inside at (ltb-true _ _ t) ∙ e)
        (λ (t : ltb at (length block) ≡ false).
        let past = plain_past at (ltb-false _ _ t) in past.0 ∙ sym past.1)
        (decided (ltb at (length block)))

    -- of the header, but for the version and the Tuples
    pub header-kept : at < 14 → (at ≡ 4 → ⊥) → (at ≡ 5 → ⊥) → byte_at plain at ≡ byte_at block at
    unfolding plain_byte plain_header_byte
    header-kept l no-4 no-5 =
        kept (simp (lt-ltb at 16 (omega arith), ne_eqb at 4 no-4, ne_eqb at 5 no-5, ne_eqb at 14 (λ e. omega arith), ne_eqb at 15 (λ e. omega arith)))

    -- of the nodes
    node_kept : node_at block 0 ≤ at → byte_at plain at ≡ byte_at block at
    unfolding plain_byte
    node_kept l = kept (simp (le-ltb at 16 (omega arith), le-ltb at (node_at block 0) l))

  -- of a record, but for its kind
  pub record_kept : (v i : ℕ) → 1 ≤ i → i < 16 → byte_at plain (vertex_at v + i) ≡ byte_at block (vertex_at v + i)
  unfolding plain_byte
  record_kept v i l m =
      let odd : eqb ((vertex_at v + i) % 16) 0 ≡ false = ne_eqb ((vertex_at v + i) % 16) 0 (λ e. omega arith) in
      kept (vertex_at v + i) (simp (le-ltb (vertex_at v + i) 16 (omega arith), odd, and-false))

  pub kind_plain : (v : ℕ) → v < source_count block + target_count block → byte_at plain (vertex_at v) ≡ byte_at block (vertex_at v) % template_mark
  unfolding plain_byte
  kind_plain v l =
      let even : eqb (vertex_at v % 16) 0 ≡ true = eq-eqb (vertex_at v % 16) 0 (omega arith) in
      ⊎_elim (λ (t : ltb (vertex_at v) (length block) ≡ true).
      plain-inside (vertex_at v) (ltb-true _ _ t)
      ∙ simp (le-ltb (vertex_at v) 16 (omega arith), lt-ltb (vertex_at v) (node_at block 0) (omega arith), even))
      (λ (t : ltb (vertex_at v) (length block) ≡ false).
      let past = plain_past (vertex_at v) (ltb-false _ _ t) in past.0 ∙ sym (ap (λ (n : ℕ). n % template_mark) past.1))
      (decided (ltb (vertex_at v) (length block)))

  -- ---- counts, and where nodes start

  pub same_source : source_count plain ≡ source_count block
  same_source = header-kept 6 (omega arith) (λ e. omega arith) (λ e. omega arith)

  pub same_target : target_count plain ≡ target_count block
  same_target = header-kept 7 (omega arith) (λ e. omega arith) (λ e. omega arith)

  pub same_outputs : rule_output_count plain ≡ rule_output_count block
  same_outputs = header-kept 8 (omega arith) (λ e. omega arith) (λ e. omega arith)

  pub same_nodes : node_count plain ≡ node_count block
  same_nodes = header-kept 9 (omega arith) (λ e. omega arith) (λ e. omega arith)

  same_node-at : (k : ℕ) → node_at plain k ≡ node_at block k
  same_node-at k = ap₂ (λ (s t : ℕ). vertex_at (s + t) + 8 * k) same_source same_target

  node_byte : (k i : ℕ) → byte_at plain (node_at plain k + i) ≡ byte_at block (node_at block k + i)
  node_byte k i = ap (λ (n : ℕ). byte_at plain (n + i)) (same_node-at k) ∙ node_kept (node_at block k + i) (omega arith)

  -- ---- the tests of a record and of the header

  filled-kept : (from to value : ℕ) → ((i : ℕ) → i < to - from → byte_at plain (from + i) ≡ byte_at block (from + i))
      → filled plain from to value ≡ filled block from to value
  unfolding filled
  filled-kept from to value e = same_below (to - from) (λ i l. ap (λ (b : ℕ). eqb b value) (e i l))

  pub plain-pattern : (v : ℕ) → v < source_count block + target_count block
      → pattern_fits plain (vertex_at v) ≡ marked_pattern_fits block (vertex_at v)
  unfolding pattern_fits marked_pattern_fits
  plain-pattern v l =
      let inputs = byte_at block (vertex_at v + 2) in
      let attributes = byte_at block (vertex_at v + 3) in
      let used : filled plain (vertex_at v + 4 + inputs) (vertex_at v + 10) 255 ≡ filled block (vertex_at v + 4 + inputs) (vertex_at v + 10) 255 =
      filled-kept (vertex_at v + 4 + inputs) (vertex_at v + 10) 255 (λ i m.
      let e : vertex_at v + 4 + inputs + i ≡ vertex_at v + (4 + inputs + i) = omega arith in
      rw e (record_kept v (4 + inputs + i) (omega arith) (omega arith))) in
      let last : filled plain (vertex_at v + 10 + attributes) (vertex_at v + 16) 255 ≡ filled block (vertex_at v + 10 + attributes) (vertex_at v + 16) 255 =
      filled-kept (vertex_at v + 10 + attributes) (vertex_at v + 16) 255 (λ i m.
      let e : vertex_at v + 10 + attributes + i ≡ vertex_at v + (10 + attributes + i) = omega arith in
      rw e (record_kept v (10 + attributes + i) (omega arith) (omega arith))) in
      rw (
        kind_plain v l,
        record_kept v 1 (omega arith) (omega arith),
        record_kept v 2 (omega arith) (omega arith),
        record_kept v 3 (omega arith) (omega arith),
        used,
        last,
      ) refl

  plain-mark : mark_fits plain rule_letter ≡ mark_fits block rule_letter
  unfolding mark_fits
  plain-mark =
      rw (
        header-kept 0 (omega arith) (λ e. omega arith) (λ e. omega arith),
        header-kept 1 (omega arith) (λ e. omega arith) (λ e. omega arith),
        header-kept 2 (omega arith) (λ e. omega arith) (λ e. omega arith),
        header-kept 3 (omega arith) (λ e. omega arith) (λ e. omega arith),
      ) refl

  plain-version : 16 ≤ length block → u16_at plain 4 ≡ rule_version
  unfolding u16_at plain_byte plain_header_byte
  plain-version l = rw (plain-inside 4 (omega arith), plain-inside 5 (omega arith)) refl

  plain_tuples : 16 ≤ length block → filled plain 14 16 0 ≡ true
  unfolding filled all_below plain_byte plain_header_byte
  plain_tuples l = simp (plain-inside 14 (omega arith), plain-inside 15 (omega arith))

  plain_sizes : rule_sizes_fit side_limit plain ≡ rule_sizes_fit side_limit block
  unfolding rule_sizes_fit
  plain_sizes = rw (same_source, same_target, same_outputs, same_nodes) refl

  -- the output places
  place_kept : (at : ℕ) → 10 ≤ at → at < 14 → byte_at plain at ≡ byte_at block at
  place_kept at l m = header-kept at m (λ e. omega arith) (λ e. omega arith)

  plain-places : rule_sizes_fit side_limit block ≡ true → rule_output_places_fit plain ≡ rule_output_places_fit block
  unfolding rule_output_places_fit rule_sizes_fit
  plain-places sizes =
      let n = rule_output_count block in
      let few = leb-true n 2 (needed (leb n 2) sizes (λ f. simp (f, and-false))) in
      let listed : all_below (λ i. ltb (byte_at plain (10 + i)) (source_count block)) n ≡ all_below (λ i. ltb (byte_at block (10 + i)) (source_count block)) n =
      same_below n (λ i l. ap (λ (b : ℕ). ltb b (source_count block)) (place_kept (10 + i) (omega arith) (omega arith))) in
      let sources = filled-kept (10 + n) 12 255 (λ i l. place_kept (10 + n + i) (omega arith) (omega arith)) in
      let targets = filled-kept (12 + n) 14 255 (λ i l. place_kept (12 + n + i) (omega arith) (omega arith)) in
      rw (same_source, same_outputs, listed, sources, targets) refl

  pub plain-header : variadic_header_fits block ≡ true → rule_header_fits side_limit plain ≡ true
  unfolding variadic_header_fits rule_header_fits
  plain-header h =
      let size = needed (eqb (length block) (node_at block (node_count block))) h (λ f. simp f) in
      let long : 16 ≤ length block = omega (arith, eqb-true (length block) (node_at block (node_count block)) size) in
      let sizes = needed (rule_sizes_fit side_limit block) h (λ f. simp (f, and-false)) in
      let mark = needed (mark_fits block rule_letter) h (λ f. simp (f, and-false)) in
      let places = needed (rule_output_places_fit block) h (λ f. simp (f, and-false)) in
      simp (
        plain-length,
        same_nodes,
        same_node-at,
        size,
        plain-mark,
        mark,
        plain-version long,
        plain_sizes,
        sizes,
        plain-places sizes,
        places,
        plain_tuples long,
      )

  -- ---- nodes, vertices and the rule

  number-kept : (at : ℕ) → node_at block 0 ≤ at → u32_at plain at ≡ u32_at block at
  unfolding u32_at u16_at
  number-kept at l =
      rw (node_kept at l, node_kept (at + 1) (omega arith), node_kept (at + 2) (omega arith), node_kept (at + 2 + 1) (omega arith)) refl

  same_node : (earlier : List Expression) (k : ℕ) → node_from plain earlier k ≡ node_from block earlier k
  unfolding node_by
  same_node earlier k =
      let form : node_form plain k ≡ node_form block k = ap (byte_at plain) (same_node-at k) ∙ node_kept (node_at block k) (omega arith) in
      let number : u32_at plain (node_at plain k + 4) ≡ u32_at block (node_at block k + 4) =
      ap (λ (n : ℕ). u32_at plain (n + 4)) (same_node-at k) ∙ number-kept (node_at block k + 4) (omega arith) in
      rw (form, node_byte k 1, node_byte k 2, number) refl

  same_expression : (k : ℕ) → expression_of plain k ≡ expression_of block k
  unfolding expression_of expressions
  same_expression k =
      ap (λ (es : List Expression). get_or es k anything)
      (ap (build (node_from plain)) same_nodes ∙ same_build (node_from plain) (node_from block) same_node (node_count block))

  module _ (v : ℕ) (l : v < source_count block + target_count block)
      (few : byte_at block (vertex_at v + 2) ≤ input_limit) (short : byte_at block (vertex_at v + 3) ≤ attribute_limit) where
    -- what a record says, without its mark
    plain-from : {P : Type 0} (naming : ℕ → P)
        → pattern_from naming (attribute_in plain v) plain (vertex_at v) ≡ unmarked (pattern_from naming (attribute_in block v) block (vertex_at v))
    unfolding pattern_from unmarked
    plain-from {P} naming =
        let inputs : tabulate (byte_at plain (vertex_at v + 2)) (λ i. naming (byte_at plain (vertex_at v + 4 + i)))
        ≡ tabulate (byte_at block (vertex_at v + 2)) (λ i. naming (byte_at block (vertex_at v + 4 + i))) =
        ap (λ (n : ℕ). tabulate n (λ i. naming (byte_at plain (vertex_at v + 4 + i)))) (record_kept v 2 (omega arith) (omega arith))
        ∙ same_tabulate (byte_at block (vertex_at v + 2)) (λ i m.
        let e : vertex_at v + 4 + i ≡ vertex_at v + (4 + i) = omega arith in
        ap naming (rw e (record_kept v (4 + i) (omega arith) (omega arith)))) in
        let attributes : tabulate (byte_at plain (vertex_at v + 3)) (attribute_in plain v) ≡ tabulate (byte_at block (vertex_at v + 3)) (attribute_in block v) =
        ap (λ (n : ℕ). tabulate n (attribute_in plain v)) (record_kept v 3 (omega arith) (omega arith))
        ∙ same_tabulate (byte_at block (vertex_at v + 3)) (λ i m.
        let e : vertex_at v + 10 + i ≡ vertex_at v + (10 + i) = omega arith in
        ap (expression_of plain) (rw e (record_kept v (10 + i) (omega arith) (omega arith)))
        ∙ same_expression (byte_at block (vertex_at v + 10 + i))) in
        rw (kind_plain v l, record_kept v 1 (omega arith) (omega arith), inputs, attributes) refl

  -- its record has no more inputs and attributes than places
  abbrev pub Short : ℕ → Type 0
  Short v = (byte_at block (vertex_at v + 2) ≤ input_limit) × (byte_at block (vertex_at v + 3) ≤ attribute_limit)

  pub plain-source : (j : ℕ) → j < source_count block → Short j → source_of (rule_of plain) j ≡ source_of (variadic_of block).plain j
  unfolding rule_of
  plain-source j l few =
      source-by origin_of (attribute_in plain) plain j (rw same_source l)
      ∙ plain-from j (omega arith) few.0 few.1 (λ p. p)
      ∙ sym (source-at block j l)

  pub plain-target : (t : ℕ) → t < target_count block → Short (source_count block + t)
      → target_of (rule_of plain) t ≡ target_of (variadic_of block).plain t
  unfolding rule_of
  plain-target t l few =
      target-by origin_of (attribute_in plain) plain t (rw same_target l)
      ∙ ap (λ (s : ℕ). pattern_from origin_of (attribute_in plain (s + t)) plain (vertex_at (s + t))) same_source
      ∙ plain-from (source_count block + t) (omega arith) few.0 few.1 origin_of
      ∙ sym (target_at block t l)

  source_kind : (j : ℕ) → j < source_count block → (source_of (variadic_of block).plain j).kind ≡ byte_at block (vertex_at j) % template_mark
  unfolding unmarked pattern_from
  source_kind j l = ap (λ (p : Pattern ℕ). p.kind) (source-at block j l)

  -- whether a vertex is a rule input is read off its kind
  plain_input : (j : ℕ) → is_rule_input (rule_of plain) j ≡ is_rule_input (variadic_of block).plain j
  unfolding is_rule_input
  plain_input j =
      let here = length-source plain ∙ same_source in
      let there = length-sources block in
      ⊎_elim (λ (t : ltb j (source_count block) ≡ true).
      let l = ltb-true j (source_count block) t in
      let kind : (source_of (rule_of plain) j).kind ≡ (source_of (variadic_of block).plain j).kind =
      source_kind_at plain j (rw same_source l) ∙ kind_plain j (omega arith) ∙ sym (source_kind j l) in
      rw (here, there, kind) refl)
      (λ (t : ltb j (source_count block) ≡ false). rw (here, there) (simp t))
      (decided (ltb j (source_count block)))

  plain_origin : (t : ℕ) (o : Origin) → origin_fits (rule_of plain) t o ≡ origin_fits (variadic_of block).plain t o
  unfolding origin_fits
  plain_origin t (given j) = plain_input j
  plain_origin t (made u) = refl

  pub plain-source-inputs : (j : ℕ) → j < source_count block → Short j
      → source_inputs_fit (rule_of plain) j ≡ source_inputs_fit (variadic_of block).plain j
  unfolding source_inputs_fit
  plain-source-inputs j l few = ap (λ (p : Pattern ℕ). all (λ i. ltb i j) p.inputs) (plain-source j l few)

  pub plain-target-inputs : (t : ℕ) → t < target_count block → Short (source_count block + t)
      → target_inputs_fit (rule_of plain) t ≡ target_inputs_fit (variadic_of block).plain t
  unfolding target_inputs_fit
  plain-target-inputs t l few =
      ap (λ (p : Pattern Origin). not (input_kind p.kind) && all (origin_fits (rule_of plain) t) p.inputs) (plain-target t l few)
      ∙ ap (λ (b : Bool). not (input_kind (target_of (variadic_of block).plain t).kind) && b)
      (same_all (target_of (variadic_of block).plain t).inputs (plain_origin t))

  -- the whole rule, where no record has more
  module _ (sizes : rule_sizes_fit side_limit block ≡ true) (few : (v : ℕ) → v < source_count block + target_count block → Short v) where
    source : (rule_of plain).source ≡ (variadic_of block).plain.source
    unfolding rule_of rule_by
    source =
        ap (λ (n : ℕ). tabulate n (λ j. pattern_from (λ p. p) (attribute_in plain j) plain (vertex_at j))) same_source
        ∙ same_tabulate (source_count block) (λ j l.
        let short = few j (omega arith) in plain-from j (omega arith) short.0 short.1 (λ p. p))
        ∙ sym (sources block)

    target : (rule_of plain).target ≡ (variadic_of block).plain.target
    unfolding rule_of rule_by
    target =
        ap₂ (λ (s n : ℕ). tabulate n (λ t. pattern_from origin_of (attribute_in plain (s + t)) plain (vertex_at (s + t)))) same_source same_target
        ∙ same_tabulate (target_count block) (λ t l.
        let short = few (source_count block + t) (omega arith) in
        plain-from (source_count block + t) (omega arith) short.0 short.1 origin_of)
        ∙ sym (targets block)

    few_outputs_lem : rule_output_count block ≤ 2
    unfolding rule_sizes_fit
    few_outputs_lem = leb-true (rule_output_count block) 2 (needed (leb (rule_output_count block) 2) sizes (λ f. simp (f, and-false)))

    outputs : (rule_of plain).source_outputs ≡ (variadic_of block).plain.source_outputs
    unfolding rule_of rule_by variadic_of
    outputs =
        ap (λ (n : ℕ). tabulate n (λ i. byte_at plain (10 + i))) same_outputs
        ∙ same_tabulate (rule_output_count block) (λ i l. place_kept (10 + i) (omega arith) (omega (arith, few_outputs_lem)))

    made-outputs : (rule_of plain).target_outputs ≡ (variadic_of block).plain.target_outputs
    unfolding rule_of rule_by variadic_of
    made-outputs =
        ap (λ (n : ℕ). tabulate n (λ i. origin_of (byte_at plain (12 + i)))) same_outputs
        ∙ same_tabulate (rule_output_count block) (λ i l. ap origin_of (place_kept (12 + i) (omega arith) (omega (arith, few_outputs_lem))))

    pub plain-rule : rule_of plain ≡ (variadic_of block).plain
    plain-rule = same_rule source target outputs made-outputs
