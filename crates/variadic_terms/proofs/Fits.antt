-- What a variadic rule's node without a fault names: earlier nodes, and source vertices. And the way down from a sum.
-- Assumes nothing.
use mathlib.Core.Path.{◌≡◌, refl, sym}
use mathlib.Core.Bool.{true, false, cond, ◌&&◌, and-false}
use mathlib.Core.List.{List}
use mathlib.Core.Logic.{⊎_elim}
use Prim.Native.Nat.{ℕ, zero, suc, ◌+◌, ◌*◌, ◌/◌, ◌<◌, ◌≤◌}
use native.Mathlib.Nat.{div-lt_iff_lt-mul, mul-le-mul_right, suc-mul}
use native.Mathlib.Omega.{arith}
use borrow.Author.Tests.{leb-true, leb-false, ltb-true, le-leb, lt-leb, eq-eqb, ne_eqb, eqb-true, eqb-false}
use lib.Dec.{eqb, ltb, leb}
use lib.ListN.{length}
use Rattle.definitions.specs.Rule.{side_limit, node_limit, source_count, node_count, node_at, form_any, form_constant, form_access, form_remainder, form_index, form_sum, node_form, node_left, node_right, operand_fits, node_fits}
use Rattle.definitions.specs.VariadicBlock.{field_limit, variadic_node_fits}
use Rattle.laws.proofs.Lists.{decided, true_not_false, needed}
use Rattle.rule_fields.specs.Fixed.{is_expanded, fixed_node_limit}
use Rattle.rule_fields.specs.Layout.{LentRule}
use Rattle.rule_fields.proofs.Fixed.{lent_split}
use Rattle.rule_nodes.proofs.Operands.{left-earlier, right-earlier}
use Rattle.variadic_terms.specs.Terms.{descend, bottom, Expandable}

-- node k's first node, and those of its indices, end before the first of a later node
pub before_product : (a k w i : ℕ) → a < k → i < w → a * w + i < k * w
before_product a k w i l m = omega (arith, mul-le-mul_right {m = suc a} {n = k} w l, suc-mul a w)

-- node m of the fixed rule is of a node of the block
pub node-inside : (m n count : ℕ) → m < count * (n + 1) → m / (n + 1) < count
node-inside m n count l = (div-lt_iff_lt-mul {k = n + 1} {x = m} {y = count} (omega arith)).1 l

-- there are at most 64 nodes with at most 7 indices
pub few_products : (k n : ℕ) → k ≤ node_limit → n ≤ field_limit → k * (n + 1) ≤ fixed_node_limit
few_products k n l m = omega (arith, mul-le-mul_right {m = k} {n = node_limit} (n + 1) l)

-- place numbers leave a lent block space for 16 source vertices
pub narrow_sources : (block : List ℕ) → is_expanded block ≡ false → LentRule block → source_count block ≤ side_limit
narrow_sources block lent layout = omega (arith, layout.whole.split, lent_split block lent)

-- every node is whole in the block
pub node_whole : (block : List ℕ) → Expandable block → (k : ℕ) → k < node_count block → node_at block (k + 1) ≤ length block
node_whole block e k l = omega (arith, e.layout.whole.size, e.layout.same_nodes)

-- what a node that is no sum may be
pub data Form (block : List ℕ) (k : ℕ) : Type 0 where
  is_any : node_form block k ≡ form_any → Form block k
  is_constant : node_form block k ≡ form_constant → Form block k
  is_access : node_form block k ≡ form_access → Form block k
  is_index : node_form block k ≡ form_index → Form block k
  is_operation : form_access < node_form block k → node_form block k ≤ form_remainder → Form block k

module _ (block : List ℕ) where
  operand_earlier : (k j : ℕ) → operand_fits block k j ≡ true → j < k
  unfolding operand_fits
  operand_earlier k j h = ltb-true j k (needed (ltb j k) h (λ f. simp f))

  module _ (k : ℕ) (fits : variadic_node_fits block k ≡ true) where
    -- of a form that version 1 has
    old-fits : node_form block k ≤ form_remainder → node_fits block k ≡ true
    unfolding variadic_node_fits
    old-fits l = simp (le-leb (node_form block k) form_remainder l) at fits

    -- index or sum
    new-form : form_remainder < node_form block k
        → cond (eqb (node_form block k) form_index) (eqb (node_left block k) 0) (eqb (node_form block k) form_sum && operand_fits block k (node_left block k)) ≡ true
    unfolding variadic_node_fits
    new-form l =
        let last = cond (eqb (node_form block k) form_index) (eqb (node_left block k) 0) (eqb (node_form block k) form_sum && operand_fits block k (node_left block k)) in
        needed last fits (λ f. simp (lt-leb (node_form block k) form_remainder l, f, and-false))

    pub sum_earlier : node_form block k ≡ form_sum → node_left block k < k
    sum_earlier e =
        let other : eqb (node_form block k) form_index ≡ false = ne_eqb (node_form block k) form_index (λ f. omega arith) in
        operand_earlier k (node_left block k)
        (needed (operand_fits block k (node_left block k)) (new-form (omega arith)) (λ f. simp (other, f, and-false)))

    -- what is neither any, a constant, an access, an index nor a sum is an operation
    pub operation_form : eqb (node_form block k) form_index ≡ false → eqb (node_form block k) form_sum ≡ false → node_form block k ≤ form_remainder
    operation_form i s =
        ⊎_elim (λ (t : leb (node_form block k) form_remainder ≡ true). leb-true (node_form block k) form_remainder t)
        (λ (t : leb (node_form block k) form_remainder ≡ false).
        absurd (true_not_false (new-form (leb-false (node_form block k) form_remainder t)) (simp (i, s))))
        (decided (leb (node_form block k) form_remainder))

    module _ (operation : form_access < node_form block k) (few : node_form block k ≤ form_remainder) where
      pub left_before : node_left block k < k
      left_before = left-earlier block k (old-fits few) operation

      pub right_before : node_right block k < k
      right_before = right-earlier block k (old-fits few) operation

    pub access_inside : node_form block k ≡ form_access → node_left block k < source_count block
    unfolding node_fits
    access_inside e =
        let no_any : eqb (node_form block k) form_any ≡ false = ne_eqb (node_form block k) form_any (λ f. omega arith) in
        let no_constant : eqb (node_form block k) form_constant ≡ false = ne_eqb (node_form block k) form_constant (λ f. omega arith) in
        let access : eqb (node_form block k) form_access ≡ true = eq-eqb (node_form block k) form_access e in
        ltb-true (node_left block k) (source_count block)
        (needed (ltb (node_left block k) (source_count block)) (old-fits (omega arith)) (λ f. simp (no_any, no_constant, access, f, and-false)))

  -- its form
  pub form_of : (k : ℕ) → variadic_node_fits block k ≡ true → eqb (node_form block k) form_sum ≡ false → Form block k
  form_of k fits other =
      let form = node_form block k in
      ⊎_elim (λ (t : eqb form form_any ≡ true). is_any (eqb-true form form_any t))
      (λ (t : eqb form form_any ≡ false).
      ⊎_elim (λ (u : eqb form form_constant ≡ true). is_constant (eqb-true form form_constant u))
      (λ (u : eqb form form_constant ≡ false).
      ⊎_elim (λ (v : eqb form form_access ≡ true). is_access (eqb-true form form_access v))
      (λ (v : eqb form form_access ≡ false).
      ⊎_elim (λ (w : eqb form form_index ≡ true). is_index (eqb-true form form_index w))
      (λ (w : eqb form form_index ≡ false).
      is_operation (omega (arith, eqb-false form form_any t, eqb-false form form_constant u, eqb-false form form_access v))
      (operation_form k fits w other))
      (decided (eqb form form_index)))
      (decided (eqb form form_access)))
      (decided (eqb form form_constant)))
      (decided (eqb form form_any))

  -- ---- the way down from a sum

  pub descend-stays : (steps k : ℕ) → eqb (node_form block k) form_sum ≡ false → descend block steps k ≡ k
  unfolding descend
  descend-stays zero k t = refl
  descend-stays (suc steps) k t = simp t

  module _ (fits : (k : ℕ) → k < node_count block → variadic_node_fits block k ≡ true) where
    -- node 0 has no operand, so it is no sum
    first_no_sum : 0 < node_count block → eqb (node_form block 0) form_sum ≡ false
    first_no_sum l = ne_eqb (node_form block 0) form_sum (λ e. omega (arith, sum_earlier 0 (fits 0 l) e))

    -- more steps than the node's number change nothing
    pub descend_same : (s t k : ℕ) → k ≤ s → k ≤ t → k < node_count block → descend block s k ≡ descend block t k
    unfolding descend
    descend_same zero t k l m n =
        let e : k ≡ 0 = omega arith in
        sym (descend-stays t k (rw e (first_no_sum (omega arith))))
    descend_same (suc s) zero k l m n =
        let e : k ≡ 0 = omega arith in
        descend-stays (suc s) k (rw e (first_no_sum (omega arith)))
    descend_same (suc s) (suc t) k l m n =
        ⊎_elim (λ (q : eqb (node_form block k) form_sum ≡ true).
        let lower = sum_earlier k (fits k n) (eqb-true (node_form block k) form_sum q) in
        simp q (descend_same s t (node_left block k) (omega arith) (omega arith) (omega arith)))
        (λ (q : eqb (node_form block k) form_sum ≡ false). simp q)
        (decided (eqb (node_form block k) form_sum))

    -- one step down
    pub bottom-step : (k : ℕ) → k < node_count block → node_form block k ≡ form_sum → bottom block k ≡ bottom block (node_left block k)
    unfolding descend
    bottom-step zero l e = absurd (omega (arith, sum_earlier 0 (fits 0 l) e))
    bottom-step (suc k) l e =
        let lower = sum_earlier (suc k) (fits (suc k) l) e in
        simp (eq-eqb (node_form block (suc k)) form_sum e)
        (descend_same k (node_left block (suc k)) (node_left block (suc k)) (omega arith) (omega arith) (omega arith))

    -- the way down ends at a node that is no sum
    pub bottom_lower : (steps k : ℕ) → k ≤ steps → k < node_count block
        → (descend block steps k ≤ k) × (eqb (node_form block (descend block steps k)) form_sum ≡ false)
    unfolding descend
    bottom_lower zero k l m =
        let e : k ≡ 0 = omega arith in
        (omega arith, rw e (first_no_sum (omega arith)))
    bottom_lower (suc steps) k l m =
        ⊎_elim (λ (q : eqb (node_form block k) form_sum ≡ true).
        let lower = sum_earlier k (fits k m) (eqb-true (node_form block k) form_sum q) in
        let down = bottom_lower steps (node_left block k) (omega arith) (omega arith) in
        simp q (omega (arith, down.0), down.1))
        (λ (q : eqb (node_form block k) form_sum ≡ false). simp q (omega arith, refl))
        (decided (eqb (node_form block k) form_sum))
