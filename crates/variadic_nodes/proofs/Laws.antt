-- What a node without a fault says of its operands, and laws about the array of which nodes need the index.
-- Assumes nothing.
use mathlib.Core.Path.{◌≡◌, sym, ap, ap₂, ◌∙◌}
use mathlib.Core.Bool.{Bool, true, false, ◌||◌, and-false}
use mathlib.Core.List.{List, ◌++◌, map}
use mathlib.Core.Logic.{◌⊎◌, inl, inr, ⊎_elim}
use Prim.Native.Nat.{ℕ, ◌+◌, ◌-◌, ◌<◌, ◌≤◌}
use native.Mathlib.Omega.{arith}
use borrow.Author.Tests.{lt-ltb, le-ltb, lt-leb, ltb-true, eqb-true, eqb-false, ne_eqb, not-false}
use lib.Dec.{eqb, ltb, leb}
use lib.ListN.{get_or, set, replicate, get_or-map}
use Rattle.definitions.specs.Lists.{build}
use Rattle.definitions.specs.Rule.{node_limit, node_count, Expression, anything, form_any, form_constant, form_access, form_remainder, form_index, form_sum, node_form, node_left, node_right, node_from, node_by, expressions, expression_of, operand_fits, node_fits}
use Rattle.definitions.specs.VariadicBlock.{variadic_of, needs_index, variadic_node_fits, bad_variadic_node}
use Rattle.laws.proofs.Lists.{decided, needed, lowest_passed}
use Rattle.laws.proofs.Builds.{build_more, get_or_padded, map-build}
use Rattle.rule_nodes.proofs.Operands.{left-earlier, right-earlier}
use Rattle.variadic_nodes.specs.Needs.{needs_from, NeedsKnown, VariadicFaultless}

module _ (block : List ℕ) where
  -- every node fits where a search for a fault passed all
  pub all_fit : VariadicFaultless block → (k : ℕ) → k < node_count block → variadic_node_fits block k ≡ true
  unfolding bad_variadic_node
  all_fit h k l = not-false (variadic_node_fits block k) (lowest_passed (bad_variadic_node block) (node_count block) k (omega arith))

  module _ (k : ℕ) (fits : variadic_node_fits block k ≡ true) where
    -- a node that is neither the index nor a sum is one of version 1
    fixed-form : (node_form block k ≡ form_index → ⊥) → (node_form block k ≡ form_sum → ⊥) → leb (node_form block k) form_remainder ≡ true
    unfolding variadic_node_fits
    fixed-form no_index no-sum =
        needed (leb (node_form block k) form_remainder) fits
        (λ f. simp (f, ne_eqb (node_form block k) form_index no_index, ne_eqb (node_form block k) form_sum no-sum, and-false))

    pub fixed_fits : (node_form block k ≡ form_index → ⊥) → (node_form block k ≡ form_sum → ⊥) → node_fits block k ≡ true
    unfolding variadic_node_fits
    fixed_fits no_index no-sum = simp (fixed-form no_index no-sum) at fits

    -- the operands of an operation stand before it
    module _ (operation : form_access < node_form block k) (no_index : node_form block k ≡ form_index → ⊥) (no-sum : node_form block k ≡ form_sum → ⊥) where
      pub fixed_left : node_left block k < k
      fixed_left = left-earlier block k (fixed_fits no_index no-sum) operation

      pub fixed_right : node_right block k < k
      fixed_right = right-earlier block k (fixed_fits no_index no-sum) operation

    pub summed_earlier : node_form block k ≡ form_sum → node_left block k < k
    unfolding variadic_node_fits operand_fits
    summed_earlier e =
        let many : leb (node_form block k) form_remainder ≡ false = lt-leb (node_form block k) form_remainder (omega (arith, e)) in
        let no_index : eqb (node_form block k) form_index ≡ false = ne_eqb (node_form block k) form_index (λ i. omega (arith, e)) in
        ltb-true (node_left block k) k (needed (ltb (node_left block k) k) fits (λ f. simp (many, no_index, f, and-false)))

  -- ---- which nodes need the index

  needs_node : (earlier : List Expression) (k : ℕ)
      → needs_index (variadic_of block) (node_from block earlier k) ≡ needs_from block (map (needs_index (variadic_of block)) earlier) k
  unfolding node_by needs_from needs_index variadic_of
  needs_node earlier k =
      go (decided (eqb (node_form block k) form_any)) (decided (eqb (node_form block k) form_constant)) (decided (eqb (node_form block k) form_access))
    where
      many : eqb (node_form block k) form_any ≡ false → eqb (node_form block k) form_constant ≡ false → form_access ≤ node_form block k
      many s t = omega (arith, eqb-false (node_form block k) form_any s, eqb-false (node_form block k) form_constant t)

      operand : (j : ℕ) → needs_index (variadic_of block) (get_or earlier j anything) ≡ get_or (map (needs_index (variadic_of block)) earlier) j false
      operand j = sym (get_or-map (needs_index (variadic_of block)) earlier j anything)

      go : (eqb (node_form block k) form_any ≡ true) ⊎ (eqb (node_form block k) form_any ≡ false)
          → (eqb (node_form block k) form_constant ≡ true) ⊎ (eqb (node_form block k) form_constant ≡ false)
          → (eqb (node_form block k) form_access ≡ true) ⊎ (eqb (node_form block k) form_access ≡ false)
          → needs_index (variadic_of block) (node_from block earlier k) ≡ needs_from block (map (needs_index (variadic_of block)) earlier) k
      go (inl s) t u = simp (s, lt-ltb (node_form block k) form_access (omega (arith, eqb-true (node_form block k) form_any s)))
      go (inr s) (inl t) u = simp (s, t, lt-ltb (node_form block k) form_access (omega (arith, eqb-true (node_form block k) form_constant t)))
      go (inr s) (inr t) (inl u) =
          simp (s, t, u, le-ltb (node_form block k) form_access (omega (arith, eqb-true (node_form block k) form_access u)))
      go (inr s) (inr t) (inr u) =
          let more = le-ltb (node_form block k) form_access (many s t) in
          ⊎_elim (λ (p : eqb (node_form block k) form_index ≡ true). simp (s, t, u, more, p))
          (λ (p : eqb (node_form block k) form_index ≡ false).
          ⊎_elim (λ (q : eqb (node_form block k) form_sum ≡ true). simp (s, t, u, more, p, q))
          (λ (q : eqb (node_form block k) form_sum ≡ false).
          simp (s, t, u, more, p, q) (ap₂ ◌||◌ (operand (node_left block k)) (operand (node_right block k))))
          (decided (eqb (node_form block k) form_sum)))
          (decided (eqb (node_form block k) form_index))

  -- places that are not found yet are as no places
  needs_unpadded : (needs : List Bool) (n k : ℕ) → needs_from block (needs ++ replicate n false) k ≡ needs_from block needs k
  unfolding needs_from
  needs_unpadded needs n k = simp get_or_padded

  -- the array, when one more is stored, and when all are
  module _ (n : ℕ) (needs : List Bool) (so_far : needs ≡ build (needs_from block) n ++ replicate (node_limit - n) false) where
    pub needs_more : (x : Bool) → n < node_limit → x ≡ needs_from block needs n
        → set needs n x ≡ build (needs_from block) (n + 1) ++ replicate (node_limit - (n + 1)) false
    needs_more x l e =
        ap (λ (xs : List Bool). set xs n x) so_far
        ∙ build_more (needs_from block) node_limit n false x l
        (e ∙ ap (λ (xs : List Bool). needs_from block xs n) so_far ∙ needs_unpadded (build (needs_from block) n) (node_limit - n) n)

    pub needs_all : n ≡ node_count block → NeedsKnown block needs
    unfolding expression_of expressions needs_index
    needs_all e k =
        ap (λ (xs : List Bool). get_or xs k false) so_far
        ∙ get_or_padded (build (needs_from block) n) (node_limit - n) k false
        ∙ ap (λ (m : ℕ). get_or (build (needs_from block) m) k false) e
        ∙ ap (λ (xs : List Bool). get_or xs k false)
        (sym (map-build (needs_index (variadic_of block)) (node_from block) (needs_from block) needs_node (node_count block)))
        ∙ get_or-map (needs_index (variadic_of block)) (build (node_from block) (node_count block)) k anything
