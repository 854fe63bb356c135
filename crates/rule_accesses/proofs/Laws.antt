-- Laws about the highest access of an expression, and about the array of them.
-- Assumes nothing.
use mathlib.Core.Path.{◌≡◌, refl, sym, ap, ap₂, ◌∙◌}
use mathlib.Core.Bool.{true, false, ◌&&◌}
use mathlib.Core.List.{List, ◌++◌, map}
use mathlib.Core.Logic.{◌⊎◌, inl, inr, ⊎_elim}
use Prim.Native.Nat.{ℕ, ◌+◌, ◌-◌, ◌<◌, ◌≤◌, max}
use native.Mathlib.Numerals.{add-one}
use native.Mathlib.Omega.{arith}
use borrow.Author.Tests.{lt-ltb, le-ltb, le-leb, lt-leb, leb-true, leb-false, eqb-true, eqb-false, not-false}
use lib.Dec.{eqb, leb, leb-zero}
use lib.ListN.{get_or, set, replicate, get_or-map}
use Rattle.definitions.specs.Lists.{build}
use Rattle.definitions.specs.Rule.{node_limit, node_count, Expression, anything, constant, access, apply, index, sum, form_any, form_constant, form_access, form_index, form_sum, node_form, node_left, node_right, node_from, expressions, expression_of, node_fits, bad_node, accesses_below, node_by}
use Rattle.laws.proofs.Lists.{decided, lowest_passed}
use Rattle.laws.proofs.Builds.{build_more, get_or_padded, map-build}
use Rattle.rule_accesses.specs.Access.{top_access, top_from, TopsKnown, NodesFaultless}

-- ---- the highest access

both_below : (a b j : ℕ) → (leb a j && leb b j) ≡ leb (max a b) j
both_below a b j = go (decided (leb a j)) (decided (leb b j))
  where
    go : (leb a j ≡ true) ⊎ (leb a j ≡ false) → (leb b j ≡ true) ⊎ (leb b j ≡ false) → (leb a j && leb b j) ≡ leb (max a b) j
    go (inl s) (inl t) = simp (s, t) (sym (le-leb (max a b) j (omega (arith, leb-true a j s, leb-true b j t))))
    go (inl s) (inr t) = simp (s, t) (sym (lt-leb (max a b) j (omega (arith, leb-false b j t))))
    go (inr s) t = simp s (sym (lt-leb (max a b) j (omega (arith, leb-false a j s))))

pub below_top : (j : ℕ) (e : Expression) → accesses_below j e ≡ leb (top_access e) j
unfolding accesses_below top_access
below_top j anything = sym (leb-zero j)
below_top j (constant z) = sym (leb-zero j)
below_top j (access v b) = refl
below_top j (apply o x y) = simp (below_top j x, below_top j y) (both_below (top_access x) (top_access y) j)
below_top j index = sym (leb-zero j)
below_top j (sum x) = below_top j x

-- ---- the nodes of a block

module _ (block : List ℕ) where
  top_node : (earlier : List Expression) (k : ℕ) → top_access (node_from block earlier k) ≡ top_from block (map top_access earlier) k
  unfolding node_by top_from top_access
  top_node earlier k =
      go (decided (eqb (node_form block k) form_any)) (decided (eqb (node_form block k) form_constant)) (decided (eqb (node_form block k) form_access))
    where
      many : eqb (node_form block k) form_any ≡ false → eqb (node_form block k) form_constant ≡ false → form_access ≤ node_form block k
      many s t = omega (arith, eqb-false (node_form block k) form_any s, eqb-false (node_form block k) form_constant t)

      go : (eqb (node_form block k) form_any ≡ true) ⊎ (eqb (node_form block k) form_any ≡ false)
          → (eqb (node_form block k) form_constant ≡ true) ⊎ (eqb (node_form block k) form_constant ≡ false)
          → (eqb (node_form block k) form_access ≡ true) ⊎ (eqb (node_form block k) form_access ≡ false)
          → top_access (node_from block earlier k) ≡ top_from block (map top_access earlier) k
      go (inl s) t u = simp (s, lt-ltb (node_form block k) form_access (omega (arith, eqb-true (node_form block k) form_any s)))
      go (inr s) (inl t) u = simp (s, t, lt-ltb (node_form block k) form_access (omega (arith, eqb-true (node_form block k) form_constant t)))
      go (inr s) (inr t) (inl u) =
          simp (s, t, u, le-ltb (node_form block k) form_access (omega (arith, eqb-true (node_form block k) form_access u))) (sym (add-one (node_left block k)))
      go (inr s) (inr t) (inr u) =
          let more = le-ltb (node_form block k) form_access (many s t) in
          ⊎_elim (λ (p : eqb (node_form block k) form_index ≡ true). simp (s, t, u, more, p))
          (λ (p : eqb (node_form block k) form_index ≡ false).
          ⊎_elim (λ (q : eqb (node_form block k) form_sum ≡ true).
          simp (s, t, u, more, p, q) (sym (get_or-map top_access earlier (node_left block k) anything)))
          (λ (q : eqb (node_form block k) form_sum ≡ false).
          simp (s, t, u, more, p, q)
          (ap₂ max (sym (get_or-map top_access earlier (node_left block k) anything))
          (sym (get_or-map top_access earlier (node_right block k) anything))))
          (decided (eqb (node_form block k) form_sum)))
          (decided (eqb (node_form block k) form_index))

  -- tops that are not found yet are as no tops
  top_unpadded : (tops : List ℕ) (n k : ℕ) → top_from block (tops ++ replicate n 0) k ≡ top_from block tops k
  unfolding top_from
  top_unpadded tops n k = simp get_or_padded

  -- the array of tops, when one more is stored, and when all are
  module _ (n : ℕ) (tops : List ℕ) (so_far : tops ≡ build (top_from block) n ++ replicate (node_limit - n) 0) where
    pub tops_more : (x : ℕ) → n < node_limit → x ≡ top_from block tops n
        → set tops n x ≡ build (top_from block) (n + 1) ++ replicate (node_limit - (n + 1)) 0
    tops_more x l e =
        ap (λ (xs : List ℕ). set xs n x) so_far
        ∙ build_more (top_from block) node_limit n 0 x l
        (e ∙ ap (λ (xs : List ℕ). top_from block xs n) so_far ∙ top_unpadded (build (top_from block) n) (node_limit - n) n)

    pub tops_all : n ≡ node_count block → TopsKnown block tops
    unfolding expression_of expressions top_access
    tops_all e k =
        ap (λ (xs : List ℕ). get_or xs k 0) so_far
        ∙ get_or_padded (build (top_from block) n) (node_limit - n) k 0
        ∙ ap (λ (m : ℕ). get_or (build (top_from block) m) k 0) e
        ∙ ap (λ (xs : List ℕ). get_or xs k 0) (sym (map-build top_access (node_from block) (top_from block) top_node (node_count block)))
        ∙ get_or-map top_access (build (node_from block) (node_count block)) k anything

  -- every node fits where a search for a fault passed all
  pub all_fit : NodesFaultless block → (k : ℕ) → k < node_count block → node_fits block k ≡ true
  unfolding bad_node
  all_fit h k l = not-false (node_fits block k) (lowest_passed (bad_node block) (node_count block) k (omega arith))
