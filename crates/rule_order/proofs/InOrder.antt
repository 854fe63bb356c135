-- A traversal that stays in order: what is visited at each step is 0, 1, .. up to a number that is known from what is asked for.
-- Assumes nothing.
use mathlib.Core.Path.{◌≡◌, refl, sym, ap, ◌∙◌}
use mathlib.Core.Bool.{true, false}
use mathlib.Core.List.{List, [], ◌∷◌, ◌++◌, append_assoc, append-nil, Memᴰ}
use mathlib.Core.Logic.{⊎_elim}
use Prim.Native.Nat.{ℕ, zero, suc, ◌<◌, ◌≤◌, max}
use native.Mathlib.Nat.{not-suc-le-zero}
use native.Mathlib.Omega.{arith}
use borrow.Author.Tests.{ltb-true, ltb-false}
use lib.Dec.{ltb}
use lib.ListN.{length, get_or, length-append, get_or-append}
use lib.Seq.{ext_get_or, get_or-append_seam}
use Rattle.definitions.specs.Lists.{tabulate, foldl, member, range}
use Rattle.definitions.specs.Paths.{visit}
use Rattle.definitions.specs.Rule.{Rule, source_inputs, traversal}
use Rattle.laws.proofs.Lists.{decided}
use Rattle.laws.proofs.Ranges.{length-range, range_at, range_more}
use Rattle.rule_order.specs.InOrder.{InOrder, visited_after}
use Rattle.rule_order.proofs.Laws.{passed, entered}

-- ---- 0, 1, .. n - 1 begins with 0, 1, ..

prefix_range : (xs later : List ℕ) (n : ℕ) → xs ++ later ≡ range 0 n → xs ≡ range 0 (length xs)
prefix_range xs later n e =
    let fits : length xs ≤ n = omega (arith, length-append xs later, ap length e, length-range n) in
    ext_get_or 0 xs (range 0 (length xs)) (sym (length-range (length xs)))
    (λ i h. sym (get_or-append xs later 0 i h) ∙ ap (λ (l : List ℕ). get_or l i 0) e ∙ range_at n i 0 (omega arith)
    ∙ sym (range_at (length xs) i 0 h))

-- what follows a prefix tells the prefix's length
prefix_next : (xs later : List ℕ) (v n : ℕ) → xs ++ v ∷ later ≡ range 0 n → xs ≡ range 0 v
prefix_next xs later v n e =
    let fits : length xs < n = omega (arith, length-append xs (v ∷ later), ap length e, length-range n) in
    let place : v ≡ length xs =
    sym (get_or-append_seam xs v later 0) ∙ ap (λ (l : List ℕ). get_or l (length xs) 0) e ∙ range_at n (length xs) 0 fits in
    rw place (prefix_range xs (v ∷ later) n e)

-- ---- a visit appends

-- what ends up behind `done`
abbrev Appends : List ℕ → List ℕ → Type 0
Appends done after = (rest : List ℕ) × (after ≡ done ++ rest)

foldl_appends : (f : List ℕ → ℕ → List ℕ) → ((done : List ℕ) (v : ℕ) → Appends done (f done v))
    → (vs done : List ℕ) → Appends done (foldl f done vs)
unfolding foldl
foldl_appends f one [] done = ([], sym (append-nil done))
foldl_appends f one (v ∷ vs) done =
    let first = one done v in
    let others = foldl_appends f one vs (f done v) in
    (first.0 ++ others.0, others.1 ∙ ap (λ (l : List ℕ). l ++ others.0) first.1 ∙ append_assoc done first.0 others.0)

module _ (r : Rule) where
  visit_appends : (d : ℕ) (done : List ℕ) (v : ℕ) → Appends done (visit (source_inputs r) d done v)
  unfolding visit
  visit_appends zero done v = ([], sym (append-nil done))
  visit_appends (suc d) done v = ⊎_elim
      (λ (t : member v done ≡ true). rw t ([], sym (append-nil done)))
      (λ (t : member v done ≡ false). rw t
      (let before = foldl_appends (visit (source_inputs r) d) (visit_appends d) (source_inputs r v) done in
      (before.0 ++ v ∷ [], ap (λ (l : List ℕ). l ++ v ∷ []) before.1 ∙ append_assoc done before.0 (v ∷ []))))
      (decided (member v done))

  -- ---- a visit that stays in order

  -- the inputs of a vertex that is entered are visited up to it
  inputs_before : (d n v : ℕ) (later : List ℕ) (m : ℕ) → n ≤ v → visit (source_inputs r) (suc d) (range 0 n) v ++ later ≡ range 0 m
      → foldl (visit (source_inputs r) d) (range 0 n) (source_inputs r v) ++ v ∷ later ≡ range 0 m
  inputs_before d n v later m h e =
      sym (append_assoc (foldl (visit (source_inputs r) d) (range 0 n) (source_inputs r v)) (v ∷ []) later)
      ∙ ap (λ (l : List ℕ). l ++ later) (sym (entered r d n v h)) ∙ e

  one_visited : (d n v : ℕ) (later : List ℕ) (m : ℕ) → v < d → visit (source_inputs r) d (range 0 n) v ++ later ≡ range 0 m
      → visit (source_inputs r) d (range 0 n) v ≡ range 0 (max n (suc v))
  one_visited zero n v later m b e = absurd (not-suc-le-zero b)
  one_visited (suc d) n v later m b e = ⊎_elim
      (λ (t : ltb v n ≡ true).
      let h : v < n = ltb-true v n t in
      let same : max n (suc v) ≡ n = omega arith in
      rw same (passed r d n v h))
      (λ (t : ltb v n ≡ false).
      let h : n ≤ v = ltb-false v n t in
      let same : max n (suc v) ≡ suc v = omega arith in
      let before = prefix_next (foldl (visit (source_inputs r) d) (range 0 n) (source_inputs r v)) later v m (inputs_before d n v later m h e) in
      rw same (entered r d n v h ∙ ap (λ (l : List ℕ). l ++ v ∷ []) before ∙ sym (range_more v)))
      (decided (ltb v n))

  -- the first of several visits is a visit that stays in order itself
  first_visited : (d n u : ℕ) (us later : List ℕ) (m : ℕ) → foldl (visit (source_inputs r) d) (range 0 n) (u ∷ us) ++ later ≡ range 0 m
      → (rest : List ℕ) × (visit (source_inputs r) d (range 0 n) u ++ rest ≡ range 0 m)
  unfolding foldl
  first_visited d n u us later m e =
      let others = foldl_appends (visit (source_inputs r) d) (visit_appends d) us (visit (source_inputs r) d (range 0 n) u) in (
        others.0 ++ later,
        sym (append_assoc (visit (source_inputs r) d (range 0 n) u) others.0 later) ∙ ap (λ (l : List ℕ). l ++ later) (sym others.1) ∙ e,
      )

  rest_visited : (d n u : ℕ) (us later : List ℕ) (m : ℕ) → u < d → foldl (visit (source_inputs r) d) (range 0 n) (u ∷ us) ++ later ≡ range 0 m
      → visit (source_inputs r) d (range 0 n) u ≡ range 0 (max n (suc u))
  rest_visited d n u us later m b e =
      let first = first_visited d n u us later m e in
      one_visited d n u first.0 m b first.1

  all_visited : (d : ℕ) (us : List ℕ) (n : ℕ) (later : List ℕ) (m : ℕ) → ((u : ℕ) → Memᴰ u us → u < d)
      → foldl (visit (source_inputs r) d) (range 0 n) us ++ later ≡ range 0 m → foldl (visit (source_inputs r) d) (range 0 n) us ≡ range 0 (visited_after n us)
  unfolding foldl visited_after
  all_visited d [] n later m deep e = refl
  all_visited d (u ∷ us) n later m deep e =
      let first = rest_visited d n u us later m (deep u (Memᴰ.head refl)) e in
      let whole : foldl (visit (source_inputs r) d) (range 0 (max n (suc u))) us ++ later ≡ range 0 m = rw first at e in
      rw first (all_visited d us (max n (suc u)) later m (λ w k. deep w (Memᴰ.tail k)) whole)

-- ---- the laws of a search that follows the traversal

module _ (r : Rule) (next : ℕ) where
  module _ (u : ℕ) (us : List ℕ) (o : InOrder r next (u ∷ us)) where
    first_deep : (w : ℕ) → Memᴰ w (u ∷ []) → w < o.depth
    first_deep w (Memᴰ.head e) = o.deep w (Memᴰ.head e)
    first_deep w (Memᴰ.tail m) = elim m [ ]

    pub in_order-first : InOrder r next (u ∷ [])
    unfolding foldl
    in_order-first =
        let first = first_visited r o.depth next u us o.later (length r.source) o.order in
        record { depth = o.depth; deep = first_deep; later = first.0; order = first.1 }

    -- a visit of the first one leaves all up to it visited
    pub in_order_visits : visit (source_inputs r) o.depth (range 0 next) u ≡ range 0 (max next (suc u))
    in_order_visits = rest_visited r o.depth next u us o.later (length r.source) (o.deep u (Memᴰ.head refl)) o.order

    pub in_order-rest : InOrder r (max next (suc u)) us
    unfolding foldl
    in_order-rest = record {
      depth = o.depth;
      deep = λ w m. o.deep w (Memᴰ.tail m);
      later = o.later;
      order = rw in_order_visits at o.order;
    }

  module _ (j : ℕ) (lower : (u : ℕ) → Memᴰ u (source_inputs r j) → u < j) where
    -- a depth above j is one more than another, at which the inputs are visited
    inputs_visited : (d : ℕ) (later : List ℕ) → j < d
        → foldl (visit (source_inputs r) d) (range 0 next) (j ∷ []) ++ later ≡ range 0 (length r.source) → next ≤ j
        → InOrder r next (source_inputs r j) × (visited_after next (source_inputs r j) ≡ j)
    unfolding foldl
    inputs_visited zero later b e h = absurd (not-suc-le-zero b)
    inputs_visited (suc d) later b e h =
        let deep : (u : ℕ) → Memᴰ u (source_inputs r j) → u < d = λ u m. omega (arith, lower u m) in
        let before = inputs_before r d next j later (length r.source) h e in
        let counted = all_visited r d (source_inputs r j) next (j ∷ later) (length r.source) deep before in
        let here = prefix_next (foldl (visit (source_inputs r) d) (range 0 next) (source_inputs r j)) later j (length r.source) before in (
          record { depth = d; deep = deep; later = j ∷ later; order = before },
          sym (length-range (visited_after next (source_inputs r j))) ∙ ap length (sym counted ∙ here) ∙ length-range j,
        )

    pub in_order-inputs : InOrder r next (j ∷ []) → next ≤ j → InOrder r next (source_inputs r j)
    in_order-inputs o h = (inputs_visited o.depth o.later (o.deep j (Memᴰ.head refl)) o.order h).0

    pub in_order-here : InOrder r next (j ∷ []) → next ≤ j → visited_after next (source_inputs r j) ≡ j
    in_order-here o h = (inputs_visited o.depth o.later (o.deep j (Memᴰ.head refl)) o.order h).1

-- ---- the outputs of a rule in visiting order, from the beginning

module _ (r : Rule) (order : traversal r ≡ range 0 (length r.source))
    (inside : (u : ℕ) → Memᴰ u r.source_outputs → u < length r.source) where
  -- every source vertex is visited, in order, and nothing more
  whole-order : foldl (visit (source_inputs r) (length r.source)) (range 0 0) r.source_outputs ++ [] ≡ range 0 (length r.source)
  unfolding traversal range tabulate
  whole-order = append-nil (traversal r) ∙ order

  pub start_in_order : InOrder r 0 r.source_outputs
  start_in_order = record { depth = length r.source; deep = inside; later = []; order = whole-order }

  pub whole_in_order : visited_after 0 r.source_outputs ≡ length r.source
  whole_in_order =
      let n : ℕ = length r.source in
      let counted = all_visited r n r.source_outputs 0 [] n inside whole-order in
      let made : List ℕ = foldl (visit (source_inputs r) n) (range 0 0) r.source_outputs in
      sym (length-range (visited_after 0 r.source_outputs))
      ∙ ap length (sym counted ∙ sym (append-nil made) ∙ whole-order) ∙ length-range n
