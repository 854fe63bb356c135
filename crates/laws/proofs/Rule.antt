-- The rule of a block, field by field: one law for each field, over the index.
-- Assumes nothing.
use mathlib.Core.Path.{◌≡◌, ap, subst, ◌∙◌}
use mathlib.Core.Bool.{Bool, true, false, and-false}
use mathlib.Core.List.Memᴰ
use mathlib.Core.List.{List, [], Memᴰ}
use mathlib.Core.Logic.{⊎_elim}
use Prim.Native.Nat.{ℕ, ◌+◌, ◌<◌, ◌≤◌}
use borrow.Author.Tests.{leb-true, leb-false, ltb-true, lt-ltb, eq-eqb}
use lib.Dec.{leb, ltb}
use lib.ListN.{length, get_or, get_or-eq_default}
use Rattle.definitions.specs.Lists.{all_below}
use Rattle.definitions.specs.Paths.{Reads}
use Rattle.definitions.specs.Fields.{byte_at}
use Rattle.definitions.specs.Operators.{kind_empty, shape_fits}
use Rattle.definitions.specs.Rule.{rule_output_limit, source_count, target_count, rule_output_count, node_count, vertex_at, Expression, Origin, Pattern, Rule, origin_of, attribute_in, pattern_from, rule_by, rule_of, wildcard, source_of, target_of, source_inputs, input_kind, is_rule_input, rule_sizes_fit, rule_output_places_fit, rule_header_fits, pattern_fits, source_inputs_fit, use_fits}
use Rattle.laws.proofs.Lists.{decided, and_left, needed, length-tabulate, get_or_tabulate, all_every, all-member, all_below_at}

-- past the last source vertex nothing is read
pub source-reader : (r : Rule) (j u : ℕ) → Reads (source_inputs r) j u → j < length r.source
unfolding source_of wildcard
source-reader r j u m =
    ⊎_elim (λ (t : leb (length r.source) j ≡ true).
    let none : source_inputs r j ≡ [] =
    ap (λ (p : Pattern ℕ). p.inputs) (get_or-eq_default r.source wildcard (leb-true (length r.source) j t)) in
    absurd (Memᴰ.not-nil (subst (Memᴰ u) none m)))
    (λ (t : leb (length r.source) j ≡ false). leb-false (length r.source) j t)
    (decided (leb (length r.source) j))

-- a rule input is a source vertex
pub input_inside : (r : Rule) (j : ℕ) → is_rule_input r j ≡ true → j < length r.source
unfolding is_rule_input
input_inside r j h = ltb-true j (length r.source) (and_left (ltb j (length r.source)) (input_kind (source_of r j).kind) h)

-- a wildcard is a rule input
pub wild_input : (r : Rule) (j : ℕ) → j < length r.source → (source_of r j).kind ≡ kind_empty → is_rule_input r j ≡ true
unfolding is_rule_input input_kind
wild_input r j l e = simp (lt-ltb j (length r.source) l, eq-eqb (source_of r j).kind kind_empty e)

-- ---- the rule whose records stand in a block, field by field

module _ (naming : ℕ → Origin) (attribute : ℕ → ℕ → Expression) (block : List ℕ) where
  abbrev read : Rule
  read = rule_by naming attribute block

  pub length-source-by : length read.source ≡ source_count block
  unfolding rule_by
  length-source-by = length-tabulate (source_count block) (λ j. pattern_from (λ p. p) (attribute j) block (vertex_at j))

  pub length-target-by : length read.target ≡ target_count block
  unfolding rule_by
  length-target-by =
      length-tabulate (target_count block) (λ t. pattern_from naming (attribute (source_count block + t)) block (vertex_at (source_count block + t)))

  pub length-source-outputs-by : length read.source_outputs ≡ rule_output_count block
  unfolding rule_by
  length-source-outputs-by = length-tabulate (rule_output_count block) (λ i. byte_at block (10 + i))

  pub length-target-outputs-by : length read.target_outputs ≡ rule_output_count block
  unfolding rule_by
  length-target-outputs-by = length-tabulate (rule_output_count block) (λ i. naming (byte_at block (12 + i)))

  -- a source or target vertex is read from its record
  pub source-by : (j : ℕ) → j < source_count block → source_of read j ≡ pattern_from (λ p. p) (attribute j) block (vertex_at j)
  unfolding rule_by source_of
  source-by j h = get_or_tabulate (source_count block) (λ v. pattern_from (λ p. p) (attribute v) block (vertex_at v)) j wildcard h

  pub target-by : (t : ℕ) → t < target_count block
      → target_of read t ≡ pattern_from naming (attribute (source_count block + t)) block (vertex_at (source_count block + t))
  unfolding rule_by target_of
  target-by t h =
      get_or_tabulate (target_count block) (λ v. pattern_from naming (attribute (source_count block + v)) block (vertex_at (source_count block + v))) t
      wildcard h

  pub source-output-by : (i d : ℕ) → i < rule_output_count block → get_or read.source_outputs i d ≡ byte_at block (10 + i)
  unfolding rule_by
  source-output-by i d h = get_or_tabulate (rule_output_count block) (λ k. byte_at block (10 + k)) i d h

  pub target-output-by : (i : ℕ) (d : Origin) → i < rule_output_count block → get_or read.target_outputs i d ≡ naming (byte_at block (12 + i))
  unfolding rule_by
  target-output-by i d h = get_or_tabulate (rule_output_count block) (λ k. naming (byte_at block (12 + k))) i d h

-- a vertex that is read from the record that starts at `at`, field by field
module _ (block : List ℕ) {P : Type 0} (naming : ℕ → P) (attribute : ℕ → Expression) (at : ℕ) {p : Pattern P}
    (read : p ≡ pattern_from naming attribute block at) where
  kind_at : p.kind ≡ byte_at block at
  unfolding pattern_from
  kind_at = ap (λ (q : Pattern P). q.kind) read

  operator-at : p.operator ≡ byte_at block (at + 1)
  unfolding pattern_from
  operator-at = ap (λ (q : Pattern P). q.operator) read

  inputs-at : length p.inputs ≡ byte_at block (at + 2)
  unfolding pattern_from
  inputs-at =
      ap (λ (q : Pattern P). length q.inputs) read
      ∙ length-tabulate (byte_at block (at + 2)) (λ i. naming (byte_at block (at + 4 + i)))

  input_at : (i : ℕ) (d : P) → i < length p.inputs → get_or p.inputs i d ≡ naming (byte_at block (at + 4 + i))
  unfolding pattern_from
  input_at i d l =
      ap (λ (q : Pattern P). get_or q.inputs i d) read
      ∙ get_or_tabulate (byte_at block (at + 2)) (λ k. naming (byte_at block (at + 4 + k))) i d (rw inputs-at at l)

  attributes-at : length p.attributes ≡ byte_at block (at + 3)
  unfolding pattern_from
  attributes-at = ap (λ (q : Pattern P). length q.attributes) read ∙ length-tabulate (byte_at block (at + 3)) attribute

  attribute_at : (i : ℕ) (d : Expression) → i < length p.attributes → get_or p.attributes i d ≡ attribute i
  unfolding pattern_from
  attribute_at i d l =
      ap (λ (q : Pattern P). get_or q.attributes i d) read
      ∙ get_or_tabulate (byte_at block (at + 3)) attribute i d (rw attributes-at at l)

-- the same of a source or target vertex, by its number
module _ (naming : ℕ → Origin) (attribute : ℕ → ℕ → Expression) (block : List ℕ) where
  abbrev rule : Rule
  rule = rule_by naming attribute block

  module _ (j : ℕ) (inside : j < source_count block) where
    pub source_kind_by : (source_of rule j).kind ≡ byte_at block (vertex_at j)
    source_kind_by = kind_at block (λ p. p) (attribute j) (vertex_at j) (source-by naming attribute block j inside)

    pub source-operator-by : (source_of rule j).operator ≡ byte_at block (vertex_at j + 1)
    source-operator-by = operator-at block (λ p. p) (attribute j) (vertex_at j) (source-by naming attribute block j inside)

    pub source-count-by : length (source_inputs rule j) ≡ byte_at block (vertex_at j + 2)
    source-count-by = inputs-at block (λ p. p) (attribute j) (vertex_at j) (source-by naming attribute block j inside)

    pub source_input_by : (i d : ℕ) → i < length (source_inputs rule j) → get_or (source_inputs rule j) i d ≡ byte_at block (vertex_at j + 4 + i)
    source_input_by = input_at block (λ p. p) (attribute j) (vertex_at j) (source-by naming attribute block j inside)

    pub source-attributes-by : length (source_of rule j).attributes ≡ byte_at block (vertex_at j + 3)
    source-attributes-by = attributes-at block (λ p. p) (attribute j) (vertex_at j) (source-by naming attribute block j inside)

    pub source_attribute_by : (i : ℕ) (d : Expression) → i < length (source_of rule j).attributes → get_or (source_of rule j).attributes i d ≡ attribute j i
    source_attribute_by = attribute_at block (λ p. p) (attribute j) (vertex_at j) (source-by naming attribute block j inside)

  module _ (t : ℕ) (inside : t < target_count block) where
    abbrev v : ℕ
    v = source_count block + t

    pub target_kind_by : (target_of rule t).kind ≡ byte_at block (vertex_at v)
    target_kind_by = kind_at block naming (attribute v) (vertex_at v) (target-by naming attribute block t inside)

    pub target-operator-by : (target_of rule t).operator ≡ byte_at block (vertex_at v + 1)
    target-operator-by = operator-at block naming (attribute v) (vertex_at v) (target-by naming attribute block t inside)

    pub target-count-by : length (target_of rule t).inputs ≡ byte_at block (vertex_at v + 2)
    target-count-by = inputs-at block naming (attribute v) (vertex_at v) (target-by naming attribute block t inside)

    pub target_input_by : (i : ℕ) (d : Origin) → i < length (target_of rule t).inputs
        → get_or (target_of rule t).inputs i d ≡ naming (byte_at block (vertex_at v + 4 + i))
    target_input_by = input_at block naming (attribute v) (vertex_at v) (target-by naming attribute block t inside)

    pub target-attributes-by : length (target_of rule t).attributes ≡ byte_at block (vertex_at v + 3)
    target-attributes-by = attributes-at block naming (attribute v) (vertex_at v) (target-by naming attribute block t inside)

    pub target_attribute_by : (i : ℕ) (d : Expression) → i < length (target_of rule t).attributes
        → get_or (target_of rule t).attributes i d ≡ attribute v i
    target_attribute_by = attribute_at block naming (attribute v) (vertex_at v) (target-by naming attribute block t inside)

-- ---- the rule of a block, field by field

module _ (block : List ℕ) where
  pub length-source : length (rule_of block).source ≡ source_count block
  unfolding rule_of
  length-source = length-source-by origin_of (attribute_in block) block

  pub length-target : length (rule_of block).target ≡ target_count block
  unfolding rule_of
  length-target = length-target-by origin_of (attribute_in block) block

  pub length-source-outputs : length (rule_of block).source_outputs ≡ rule_output_count block
  unfolding rule_of
  length-source-outputs = length-source-outputs-by origin_of (attribute_in block) block

  pub length-target-outputs : length (rule_of block).target_outputs ≡ rule_output_count block
  unfolding rule_of
  length-target-outputs = length-target-outputs-by origin_of (attribute_in block) block

  pub source-output_of : (i d : ℕ) → i < rule_output_count block → get_or (rule_of block).source_outputs i d ≡ byte_at block (10 + i)
  unfolding rule_of
  source-output_of i d h = source-output-by origin_of (attribute_in block) block i d h

  pub target-output_of : (i : ℕ) (d : Origin) → i < rule_output_count block
      → get_or (rule_of block).target_outputs i d ≡ origin_of (byte_at block (12 + i))
  unfolding rule_of
  target-output_of i d h = target-output-by origin_of (attribute_in block) block i d h

  pub source_kind_at : (j : ℕ) → j < source_count block → (source_of (rule_of block) j).kind ≡ byte_at block (vertex_at j)
  unfolding rule_of
  source_kind_at j h = source_kind_by origin_of (attribute_in block) block j h

  pub source-operator-at : (j : ℕ) → j < source_count block → (source_of (rule_of block) j).operator ≡ byte_at block (vertex_at j + 1)
  unfolding rule_of
  source-operator-at j h = source-operator-by origin_of (attribute_in block) block j h

  pub source-count-at : (j : ℕ) → j < source_count block → length (source_inputs (rule_of block) j) ≡ byte_at block (vertex_at j + 2)
  unfolding rule_of
  source-count-at j h = source-count-by origin_of (attribute_in block) block j h

  pub source_input_at : (j i d : ℕ) → j < source_count block → i < length (source_inputs (rule_of block) j)
      → get_or (source_inputs (rule_of block) j) i d ≡ byte_at block (vertex_at j + 4 + i)
  unfolding rule_of
  source_input_at j i d h l = source_input_by origin_of (attribute_in block) block j h i d l

  pub source-attributes-at : (j : ℕ) → j < source_count block → length (source_of (rule_of block) j).attributes ≡ byte_at block (vertex_at j + 3)
  unfolding rule_of
  source-attributes-at j h = source-attributes-by origin_of (attribute_in block) block j h

  pub source_attribute_at : (j i : ℕ) (d : Expression) → j < source_count block → i < length (source_of (rule_of block) j).attributes
      → get_or (source_of (rule_of block) j).attributes i d ≡ attribute_in block j i
  unfolding rule_of
  source_attribute_at j i d h l = source_attribute_by origin_of (attribute_in block) block j h i d l

  pub target_kind_at : (t : ℕ) → t < target_count block → (target_of (rule_of block) t).kind ≡ byte_at block (vertex_at (source_count block + t))
  unfolding rule_of
  target_kind_at t h = target_kind_by origin_of (attribute_in block) block t h

  pub target-operator-at : (t : ℕ) → t < target_count block
      → (target_of (rule_of block) t).operator ≡ byte_at block (vertex_at (source_count block + t) + 1)
  unfolding rule_of
  target-operator-at t h = target-operator-by origin_of (attribute_in block) block t h

  pub target-count-at : (t : ℕ) → t < target_count block
      → length (target_of (rule_of block) t).inputs ≡ byte_at block (vertex_at (source_count block + t) + 2)
  unfolding rule_of
  target-count-at t h = target-count-by origin_of (attribute_in block) block t h

  pub target_input_at : (t i : ℕ) (d : Origin) → t < target_count block → i < length (target_of (rule_of block) t).inputs
      → get_or (target_of (rule_of block) t).inputs i d ≡ origin_of (byte_at block (vertex_at (source_count block + t) + 4 + i))
  unfolding rule_of
  target_input_at t i d h l = target_input_by origin_of (attribute_in block) block t h i d l

  pub target-attributes-at : (t : ℕ) → t < target_count block
      → length (target_of (rule_of block) t).attributes ≡ byte_at block (vertex_at (source_count block + t) + 3)
  unfolding rule_of
  target-attributes-at t h = target-attributes-by origin_of (attribute_in block) block t h

  pub target_attribute_at : (t i : ℕ) (d : Expression) → t < target_count block → i < length (target_of (rule_of block) t).attributes
      → get_or (target_of (rule_of block) t).attributes i d ≡ attribute_in block (source_count block + t) i
  unfolding rule_of
  target_attribute_at t i d h l = target_attribute_by origin_of (attribute_in block) block t h i d l

  -- ---- what a header that fits says, and a record that follows its kind

  module _ (limit : ℕ) (fits : rule_header_fits limit block ≡ true) where
    pub few_sources_lem : source_count block ≤ limit
    unfolding rule_header_fits rule_sizes_fit
    few_sources_lem =
        leb-true (source_count block) limit (needed (leb (source_count block) limit) fits (λ f. simp (f, and-false)))

    pub few_targets_lem : target_count block ≤ limit
    unfolding rule_header_fits rule_sizes_fit
    few_targets_lem =
        leb-true (target_count block) limit (needed (leb (target_count block) limit) fits (λ f. simp (f, and-false)))

    -- one output or two
    pub some_rule-outputs : 1 ≤ rule_output_count block
    unfolding rule_header_fits rule_sizes_fit
    some_rule-outputs =
        leb-true 1 (rule_output_count block) (needed (leb 1 (rule_output_count block)) fits (λ f. simp (f, and-false)))

    pub few_rule-outputs : rule_output_count block ≤ rule_output_limit
    unfolding rule_header_fits rule_sizes_fit
    few_rule-outputs =
        leb-true (rule_output_count block) rule_output_limit
        (needed (leb (rule_output_count block) rule_output_limit) fits (λ f. simp (f, and-false)))

  pub pattern_shape : (at : ℕ) → pattern_fits block at ≡ true
      → shape_fits (byte_at block at) (byte_at block (at + 1)) (byte_at block (at + 2)) (byte_at block (at + 3)) ≡ true
  unfolding pattern_fits
  pattern_shape at fits =
      needed (shape_fits (byte_at block at) (byte_at block (at + 1)) (byte_at block (at + 2)) (byte_at block (at + 3))) fits (λ f. simp f)

  -- the node of an attribute that fits its vertex is one of the block's
  pub use_inside : (v k : ℕ) → use_fits block v k ≡ true → k < node_count block
  unfolding use_fits
  use_inside v k fits = ltb-true k (node_count block) (needed (ltb k (node_count block)) fits (λ f. simp f))

  -- ---- what a good header and good input places say of the rule

  pub outputs_below : (limit : ℕ) → rule_header_fits limit block ≡ true → (o : ℕ) → Memᴰ o (rule_of block).source_outputs → o < source_count block
  unfolding rule_header_fits rule_output_places_fit
  outputs_below limit h o m =
      let below : ℕ → Bool = λ k. ltb (byte_at block (10 + k)) (source_count block) in
      let listed = needed (all_below below (rule_output_count block)) h (λ f. simp (f, and-false)) in
      ltb-true o (source_count block)
      (all-member (λ x. ltb x (source_count block))
      (all_every (λ x. ltb x (source_count block)) 255 (rule_of block).source_outputs
      (λ i l.
      let inside : i < rule_output_count block = rw length-source-outputs at l in
      rw (source-output_of i 255 inside) (all_below_at below (rule_output_count block) i listed inside))) m)

  pub inputs_lower : ((j : ℕ) → j < source_count block → source_inputs_fit (rule_of block) j ≡ true)
      → (j u : ℕ) → Reads (source_inputs (rule_of block)) j u → u < j
  unfolding source_inputs_fit
  inputs_lower fits j u m =
      ltb-true u j (all-member (λ p. ltb p j) (fits j (rw length-source at (source-reader (rule_of block) j u m))) m)
