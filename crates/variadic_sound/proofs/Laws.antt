-- Laws about the highest accesses of the nodes, and about what they decide of an attribute.
-- Assumes nothing.
use mathlib.Core.Path.{◌≡◌, refl, sym, ap, ◌∙◌}
use mathlib.Core.Bool.{Bool, true, false, ◌&&◌, ◌||◌}
use mathlib.Core.List.{List}
use mathlib.Core.Logic.{⊎_elim}
use Prim.Native.Nat.{ℕ, zero, suc, ◌+◌, ◌<◌, ◌≤◌, max}
use native.Mathlib.Nat.{not-suc-le-zero}
use native.Mathlib.Numerals.{add-one}
use native.Mathlib.Omega.{arith}
use borrow.Author.Tests.{ltb-true, ltb-false, eqb-true, eqb-false}
use lib.Dec.{eqb, ltb, leb, leb-zero}
use lib.ListN.{length, get_or, set, replicate, length-set}
use lib.Seq.{get_or-set_same, get_or-set_other}
use Rattle.definitions.specs.Fields.{byte_at, Bytes}
use Rattle.definitions.specs.Rule.{source_count, target_count, vertex_at, Expression, anything, constant, access, apply, index, sum, form_any, form_access, node_at, node_form, node_left, source_of, target_of, accesses_below}
use Rattle.definitions.specs.Lists.{all_below, all}
use Rattle.definitions.specs.FixedRule.{definite, is_any, source_uses_fit, target_uses_fit}
use Rattle.rule_fields.specs.Fixed.{fixed_node_limit, nodes_in, left_in, right_in, expression_in, attribute_node, fixed_of}
use Rattle.rule_fields.proofs.Fixed.{length-source, source-attributes-at, source_attribute_at, target-attributes-at, target_attribute_at, attribute_expression}
use Rattle.rule_nodes.specs.Nodes.{GoodNode}
use Rattle.rule_accesses.specs.Access.{top_access}
use Rattle.rule_accesses.proofs.Laws.{below_top}
use Rattle.match_leaves.proofs.Laws.{any-node, constant_node, access_node}
use Rattle.match_values.proofs.Laws.{operation_node}
use Rattle.laws.proofs.Lists.{decided, true_not_false, all_every, all-at, all_below_at, all_below_every}
use Rattle.laws.proofs.Tests.{same_tests}
use Rattle.variadic_sound.specs.Judged.{Judgeable, TopsBelow, TopsOf}

-- ---- the highest access of a node, by its form

module _ (block : List ℕ) (k : ℕ) (inside : k < nodes_in block) where
  pub leaf_top : node_form block k < form_access → 0 ≡ top_access (expression_in block k)
  unfolding top_access
  leaf_top l =
      ⊎_elim (λ (t : eqb (node_form block k) form_any ≡ true). rw (any-node block k inside (eqb-true (node_form block k) form_any t)))
      (λ (t : eqb (node_form block k) form_any ≡ false).
      rw (constant_node block k inside (omega (arith, eqb-false (node_form block k) form_any t))))
      (decided (eqb (node_form block k) form_any))

  pub access_top : node_form block k ≡ form_access → node_left block k + 1 ≡ top_access (expression_in block k)
  unfolding top_access
  access_top h = rw (access_node block k inside h) (add-one (node_left block k))

  pub operation_top : GoodNode block k → form_access < node_form block k
      → max (top_access (expression_in block (left_in block k))) (top_access (expression_in block (right_in block k))) ≡ top_access (expression_in block k)
  unfolding top_access
  operation_top good h = rw (operation_node block k inside good h)

-- it is one of a byte's numbers, or 256
module _ (block : List ℕ) (nodes : (k : ℕ) → k < nodes_in block → GoodNode block k) (bytes : Bytes block) where
  top_below : (n k : ℕ) → k < n → k < nodes_in block → top_access (expression_in block k) ≤ 256
  top_below zero k b l = absurd (not-suc-le-zero b)
  top_below (suc n) k b l =
      let form = node_form block k in
      ⊎_elim (λ (t : ltb form form_access ≡ true). omega (arith, leaf_top block k l (ltb-true form form_access t)))
      (λ (t : ltb form form_access ≡ false). ⊎_elim
      (λ (u : eqb form form_access ≡ true).
      omega (arith, access_top block k l (eqb-true form form_access u), bytes (node_at block k + 1)))
      (λ (u : eqb form form_access ≡ false).
      let good = nodes k l in
      let operation : form_access < form = omega (arith, ltb-false form form_access t, eqb-false form form_access u) in
      let left = good.left operation in
      let right = good.right operation in
      omega (
        arith,
        operation_top block k l good operation,
        top_below n (left_in block k) (omega arith) (omega arith),
        top_below n (right_in block k) (omega arith) (omega arith),
      ))
      (decided (eqb form form_access)))
      (decided (ltb form form_access))

  pub top_small : (k : ℕ) → k < nodes_in block → top_access (expression_in block k) < 65536
  top_small k l = omega (arith, top_below (suc k) k (omega arith) l)

-- ---- the array of them

module _ (block : List ℕ) where
  pub tops_none : TopsBelow block 0 (replicate fixed_node_limit 0)
  tops_none = record { size = refl; known = λ j l. absurd (not-suc-le-zero l) }

  pub tops_more : {tops : List ℕ} (k top : ℕ) → TopsBelow block k tops → k < fixed_node_limit → top ≡ top_access (expression_in block k)
      → TopsBelow block (k + 1) (set tops k top)
  tops_more {tops} k top m l e = record {
    size = length-set tops k top ∙ m.size;
    known = λ j h. ⊎_elim
        (λ (t : eqb j k ≡ true). rw (eqb-true j k t, get_or-set_same tops k top 0 (rw m.size l)) e)
        (λ (t : eqb j k ≡ false).
        let other = eqb-false j k t in
        rw (get_or-set_other tops k j top 0 other) (m.known j (omega (arith, other))))
        (decided (eqb j k));
  }

-- ---- what the highest access decides

any_top : (e : Expression) → is_any e ≡ true → top_access e ≡ 0
unfolding is_any top_access
any_top anything h = refl
any_top (constant z) h = absurd (true_not_false h refl)
any_top (access v b) h = absurd (true_not_false h refl)
any_top (apply o x y) h = absurd (true_not_false h refl)
any_top index h = absurd (true_not_false h refl)
any_top (sum x) h = absurd (true_not_false h refl)

source_use : (j : ℕ) (e : Expression) → (is_any e || definite e) ≡ true
    → (is_any e || definite e && accesses_below j e) ≡ leb (top_access e) j
source_use j e h =
    ⊎_elim (λ (t : is_any e ≡ true). simp (t, any_top e t) (sym (leb-zero j)))
    (λ (t : is_any e ≡ false). let sure : definite e ≡ true = simp t at h in simp (t, sure) (below_top j e))
    (decided (is_any e))

-- a test of every element, by the places
all_by_place : {A : Type 0} (q : A → Bool) (d : A) (xs : List A) (p : ℕ → Bool) → ((i : ℕ) → i < length xs → p i ≡ q (get_or xs i d))
    → all_below p (length xs) ≡ all q xs
all_by_place q d xs p same = same_tests
    (λ h. all_every q d xs (λ i l. sym (same i l) ∙ all_below_at p (length xs) i h l))
    (λ h. all_below_every p (length xs) (λ i l. same i l ∙ all-at q d xs i h l))

module _ (block tops : List ℕ) (judged : Judgeable block) (known : TopsOf block tops) where
  abbrev source_attributes : ℕ → List Expression
  source_attributes j = (source_of (fixed_of block) j).attributes

  abbrev target_attributes : ℕ → List Expression
  target_attributes t = (target_of (fixed_of block) t).attributes

  module _ (j i node : ℕ) (vertex : j < source_count block) (place : i < length (source_attributes j)) (at : node ≡ attribute_node block j i) where
    pub source-node : node < nodes_in block
    source-node = rw at (judged.evaluable.uses j i (omega arith) (rw (source-attributes-at block j vertex) at place))

    pub source-read : expression_in block node ≡ get_or (source_attributes j) i anything
        → (let e = get_or (source_attributes j) i anything in is_any e || definite e && accesses_below j e) ≡ leb (get_or tops node 0) j
    source-read same =
        source_use j (get_or (source_attributes j) i anything) (judged.sources j i vertex place)
        ∙ ap (λ (n : ℕ). leb n j) (ap top_access (sym same) ∙ sym (known.known node source-node))

  module _ (t i node : ℕ) (vertex : t < target_count block) (place : i < length (target_attributes t))
      (at : node ≡ attribute_node block (source_count block + t) i) where
    pub target-node : node < nodes_in block
    target-node =
        rw at (judged.evaluable.uses (source_count block + t) i (omega arith) (rw (target-attributes-at block t vertex) at place))

    pub target-read : expression_in block node ≡ get_or (target_attributes t) i anything
        → (let e = get_or (target_attributes t) i anything in definite e && accesses_below (length (fixed_of block).source) e)
        ≡ leb (get_or tops node 0) (source_count block)
    target-read same =
        let e = get_or (target_attributes t) i anything in
        simp (judged.targets t i vertex place, length-source block)
        (below_top (source_count block) e
        ∙ ap (λ (n : ℕ). leb n (source_count block)) (ap top_access (sym same) ∙ sym (known.known node target-node)))

  -- all attributes, by their places in the record
  pub source_uses : (j : ℕ) → j < source_count block
      → all_below (λ i. leb (get_or tops (attribute_node block j i) 0) j) (byte_at block (vertex_at j + 3)) ≡ source_uses_fit (fixed_of block) j
  unfolding source_uses_fit
  source_uses j vertex =
      ap (all_below (λ i. leb (get_or tops (attribute_node block j i) 0) j)) (sym (source-attributes-at block j vertex))
      ∙ all_by_place (λ e. is_any e || definite e && accesses_below j e) anything (source_attributes j)
      (λ i. leb (get_or tops (attribute_node block j i) 0) j)
      (λ i place. sym (source-read j i (attribute_node block j i) vertex place refl
      (attribute_expression block j i ∙ sym (source_attribute_at block j i anything vertex place))))

  pub target_uses : (t : ℕ) → t < target_count block
      → all_below (λ i. leb (get_or tops (attribute_node block (source_count block + t) i) 0) (source_count block))
      (byte_at block (vertex_at (source_count block + t) + 3))
      ≡ target_uses_fit (fixed_of block) t
  unfolding target_uses_fit
  target_uses t vertex =
      ap (all_below (λ i. leb (get_or tops (attribute_node block (source_count block + t) i) 0) (source_count block)))
      (sym (target-attributes-at block t vertex))
      ∙ all_by_place (λ e. definite e && accesses_below (length (fixed_of block).source) e) anything (target_attributes t)
      (λ i. leb (get_or tops (attribute_node block (source_count block + t) i) 0) (source_count block))
      (λ i place. sym (target-read t i (attribute_node block (source_count block + t) i) vertex place refl
      (attribute_expression block (source_count block + t) i ∙ sym (target_attribute_at block t i anything vertex place))))
