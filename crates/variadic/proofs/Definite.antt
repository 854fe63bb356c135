-- The expressions of a fixed rule are definite, or any as a whole: this follows from the block's nodes, without a look at the fixed rule.
-- Assumes nothing.
use mathlib.Core.Path.{◌≡◌, refl, sym, ◌∙◌}
use mathlib.Core.Bool.{true, false, not, and-false}
use mathlib.Core.List.{List, [], ◌∷◌}
use mathlib.Core.Logic.{◌⊎◌, ⊎_elim}
use Prim.Native.Nat.{ℕ, zero, suc, ◌+◌, ◌-◌, ◌^◌, ◌<◌, ◌≤◌}
use native.Mathlib.Nat.{not-suc-le-zero}
use native.Mathlib.Omega.{arith}
use borrow.Author.Tests.{leb-true, ltb-true, lt-ltb, ne_eqb, not-true, leb-false}
use lib.Dec.{eqb, ltb, leb}
use lib.ListN.{get_or}
use Rattle.definitions.specs.Lists.{within, tabulate, build, all, foldl}
use Rattle.definitions.specs.Fields.{u32_at, signed}
use Rattle.definitions.specs.Graph.{attribute_limit}
use Rattle.definitions.specs.Attributes.{in_range}
use Rattle.definitions.specs.Rule.{node_count, node_at, add, remainder, Expression, anything, constant, access, apply, index, sum, operations, form_any, form_constant, form_access, form_add, form_remainder, form_index, form_sum, node_form, node_left, node_right, node_by, node_from, expressions, expression_of, operand_fits, node_fits}
use Rattle.definitions.specs.FixedRule.{definite}
use Rattle.definitions.specs.Variadic.{VariadicRule, added, seen}
use Rattle.definitions.specs.VariadicBlock.{field_limit, variadic_node_fits}
use Rattle.laws.proofs.Lists.{decided, and_left, and_right, needed}
use Rattle.laws.proofs.Builds.{build-at}
use Rattle.numbers.proofs.Laws.{signed_in_range}
use Rattle.variadic.specs.Formed.{formed}

-- ---- an expansion of a formed expression is definite

-- a sum of definite terms is definite
sum_definite : (e : Expression) (es : List Expression) → definite e ≡ true → all definite es ≡ true → definite (foldl (apply add) e es) ≡ true
unfolding foldl all definite
sum_definite e [] h k = h
sum_definite e (x ∷ es) h k =
    sum_definite (apply add e x) es (simp (h, and_left (definite x) (all definite es) k)) (and_right (definite x) (all definite es) k)

added-definite : (es : List Expression) → all definite es ≡ true → definite (added es) ≡ true
unfolding added all definite in_range
added-definite [] h = lt-ltb 0 (2 ^ 31) (omega arith)
added-definite (e ∷ es) h = sum_definite e es (and_left (definite e) (all definite es) h) (and_right (definite e) (all definite es) h)

tabulate-definite : (n : ℕ) (f : ℕ → Expression) → ((k : ℕ) → k < n → definite (f k) ≡ true) → all definite (tabulate n f) ≡ true
unfolding tabulate all
tabulate-definite zero f h = refl
tabulate-definite (suc n) f h = simp (h 0 (omega arith), tabulate-definite n (λ k. f (suc k)) (λ k l. h (suc k) (omega arith)))

module _ (r : VariadicRule) (n : ℕ) (few : n ≤ field_limit) where
  pub seen-definite : (e : Expression) (i : ℕ) → i ≤ field_limit → formed e ≡ true → definite (seen r n e i) ≡ true
  unfolding seen formed definite in_range
  seen-definite anything i l h = h
  seen-definite (constant z) i l h = h
  seen-definite (access v b) i l h = h
  seen-definite (apply o x y) i l h =
      simp (seen-definite x i l (and_left (formed x) (formed y) h), seen-definite y i l (and_right (formed x) (formed y) h))
  seen-definite index i l h = lt-ltb i (2 ^ 31) (omega arith)
  seen-definite (sum x) i l h =
      added-definite (tabulate n (λ k. seen r n x (suc k)))
      (tabulate-definite n (λ k. seen r n x (suc k)) (λ k m. seen-definite x (suc k) (omega arith) h))

-- ---- the expression of a node that fits is any, or formed

module _ (block : List ℕ) (nodes : (k : ℕ) → k < node_count block → variadic_node_fits block k ≡ true) where
  node_made : (k : ℕ) → k < node_count block → expression_of block k ≡ node_from block (build (node_from block) k) k
  unfolding expression_of expressions
  node_made k l = build-at (node_from block) (node_count block) k anything l

  operand_made : (k j : ℕ) → k < node_count block → j < k → get_or (build (node_from block) k) j anything ≡ expression_of block j
  operand_made k j l m = build-at (node_from block) k j anything m ∙ sym (node_made j (omega arith))

  operand_of : (k j : ℕ) → operand_fits block k j ≡ true → (j < k) × (eqb (node_form block j) form_any ≡ false)
  unfolding operand_fits
  operand_of k j h = (
    ltb-true j k (and_left (ltb j k) (not (eqb (node_form block j) form_any)) h),
    not-true (eqb (node_form block j) form_any) (and_right (ltb j k) (not (eqb (node_form block j) form_any)) h),
  )

  abbrev Formed : ℕ → Type 0
  Formed k = formed (expression_of block k) ≡ true

  -- a node of version 1
  module _ (k : ℕ) (l : k < node_count block) (few : leb (node_form block k) form_remainder ≡ true) (some : eqb (node_form block k) form_any ≡ false)
      (earlier : (j : ℕ) → j < k → eqb (node_form block j) form_any ≡ false → Formed j) where
    fits : node_fits block k ≡ true
    unfolding variadic_node_fits
    fits = simp few at (nodes k l)

    constant_formed : eqb (node_form block k) form_constant ≡ true → Formed k
    unfolding node_by formed
    constant_formed t =
        let made : expression_of block k ≡ constant (signed (u32_at block (node_at block k + 4))) = node_made k l ∙ simp (some, t) in
        rw made (signed_in_range (u32_at block (node_at block k + 4)))

    access_formed : eqb (node_form block k) form_constant ≡ false → eqb (node_form block k) form_access ≡ true → Formed k
    unfolding node_by node_fits formed
    access_formed t u =
        let made : expression_of block k ≡ access (node_left block k) (node_right block k) = node_made k l ∙ simp (some, t, u) in
        rw made (needed (within 1 (node_right block k) attribute_limit) fits (λ f. simp (some, t, u, f, and-false)))

    operation_formed : eqb (node_form block k) form_constant ≡ false → eqb (node_form block k) form_access ≡ false → Formed k
    unfolding node_by node_fits formed
    operation_formed t u =
        let form = node_form block k in
        let most = leb-true form form_remainder few in
        let left = operand_of k (node_left block k) (needed (operand_fits block k (node_left block k)) fits (λ f. simp (some, t, u, f, and-false))) in
        let right = operand_of k (node_right block k) (needed (operand_fits block k (node_right block k)) fits (λ f. simp (some, t, u, f, and-false))) in
        let made : expression_of block k
        ≡ apply (get_or operations (form - form_add) remainder) (expression_of block (node_left block k)) (expression_of block (node_right block k)) =
        node_made k l ∙ simp (
          some,
          t,
          u,
          ne_eqb form form_index (λ e. omega arith),
          ne_eqb form form_sum (λ e. omega arith),
          operand_made k (node_left block k) l left.0,
          operand_made k (node_right block k) l right.0,
        ) in
        rw made (simp (earlier (node_left block k) left.0 left.1, earlier (node_right block k) right.0 right.1))

    old-formed : Formed k
    old-formed =
        ⊎_elim (λ (t : eqb (node_form block k) form_constant ≡ true). constant_formed t)
        (λ (t : eqb (node_form block k) form_constant ≡ false).
        ⊎_elim (λ (u : eqb (node_form block k) form_access ≡ true). access_formed t u)
        (λ (u : eqb (node_form block k) form_access ≡ false). operation_formed t u)
        (decided (eqb (node_form block k) form_access)))
        (decided (eqb (node_form block k) form_constant))

  -- index and sum
  module _ (k : ℕ) (l : k < node_count block) (many : leb (node_form block k) form_remainder ≡ false)
      (earlier : (j : ℕ) → j < k → eqb (node_form block j) form_any ≡ false → Formed j) where
    above : form_remainder < node_form block k
    above = leb-false (node_form block k) form_remainder many

    no_old : (form : ℕ) → form ≤ form_remainder → eqb (node_form block k) form ≡ false
    no_old form m = ne_eqb (node_form block k) form (λ e. omega (arith, above))

    index_formed : eqb (node_form block k) form_index ≡ true → Formed k
    unfolding node_by formed
    index_formed t =
        let made : expression_of block k ≡ index =
        node_made k l ∙ simp (no_old form_any (omega arith), no_old form_constant (omega arith), no_old form_access (omega arith), t) in
        rw made

    sum_formed : eqb (node_form block k) form_index ≡ false → Formed k
    unfolding node_by variadic_node_fits formed
    sum_formed t =
        let fits = nodes k l in
        let is_sum = needed (eqb (node_form block k) form_sum) fits (λ f. simp (many, t, f, and-false)) in
        let left = operand_of k (node_left block k) (needed (operand_fits block k (node_left block k)) fits (λ f. simp (many, t, f, and-false))) in
        let made : expression_of block k ≡ sum (expression_of block (node_left block k)) =
        node_made k l ∙ simp (
          no_old form_any (omega arith),
          no_old form_constant (omega arith),
          no_old form_access (omega arith),
          t,
          is_sum,
          operand_made k (node_left block k) l left.0,
        ) in
        rw made (earlier (node_left block k) left.0 left.1)

    new-formed : Formed k
    new-formed =
        ⊎_elim (λ (t : eqb (node_form block k) form_index ≡ true). index_formed t)
        (λ (t : eqb (node_form block k) form_index ≡ false). sum_formed t)
        (decided (eqb (node_form block k) form_index))

  formed_below : (n k : ℕ) → k < n → k < node_count block → eqb (node_form block k) form_any ≡ false → Formed k
  formed_below zero k b l s = absurd (not-suc-le-zero b)
  formed_below (suc n) k b l s =
      let earlier : (j : ℕ) → j < k → eqb (node_form block j) form_any ≡ false → Formed j = λ j m. formed_below n j (omega arith) (omega arith) in
      ⊎_elim (λ (t : leb (node_form block k) form_remainder ≡ true). old-formed k l t s earlier)
      (λ (t : leb (node_form block k) form_remainder ≡ false). new-formed k l t earlier)
      (decided (leb (node_form block k) form_remainder))

  -- any, or formed
  pub node-formed : (k : ℕ) → k < node_count block → eqb (node_form block k) form_any ≡ false → formed (expression_of block k) ≡ true
  node-formed k l = formed_below (suc k) k (omega arith) l

  pub node-any : (k : ℕ) → k < node_count block → eqb (node_form block k) form_any ≡ true → expression_of block k ≡ anything
  unfolding node_by
  node-any k l t = node_made k l ∙ simp t
