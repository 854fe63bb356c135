-- The source's order has every copy: what a vertex that is visited names is visited, and every vertex is an output or is named.
-- Assumes nothing.
use mathlib.Core.Path.{◌≡◌, refl, sym, subst, ◌∙◌}
use mathlib.Core.Bool.{true, false}
use mathlib.Core.List.{List, [], ◌∷◌, ◌++◌, Memᴰ}
use mathlib.Core.Logic.{⊎_elim}
use Prim.Native.Nat.{ℕ, zero, suc, ◌+◌, ◌-◌, ◌<◌, ◌≤◌}
use native.Mathlib.Nat.{not-suc-le-zero}
use native.Mathlib.Omega.{arith}
use borrow.Author.Tests.{eq-eqb, ne_eqb, eqb-true, eqb-false}
use lib.Dec.{eqb}
use lib.ListN.{length, length-map}
use Rattle.definitions.specs.Lists.{tabulate, foldl, member}
use Rattle.definitions.specs.Fields.{byte_at}
use Rattle.definitions.specs.Paths.{visit, Reads}
use Rattle.definitions.specs.Rule.{side_limit, source_count, rule_of, source_inputs}
use Rattle.definitions.specs.Variadic.{VariadicRule, copy, original, copy_index, source_copy, fields, source_names, source_order}
use Rattle.definitions.specs.VariadicBlock.{field_limit, unmarked, variadic_of}
use Rattle.laws.proofs.Lists.{decided, true_not_false, length-tabulate, get_or_tabulate}
use Rattle.laws.proofs.Members.{member_mem, mem-at, mem_concat}
use Rattle.laws.proofs.Rule.{source-reader, length-source}
use Rattle.variadic.specs.Templated.{Templated}
use Rattle.variadic_order.specs.Sides.{side_names, outputs_from}
use Rattle.variadic_order.proofs.Sides.{names_lower, source-names, source-outputs, source-order}
use Rattle.variadic_layout.specs.Written.{BlockLayout}
use Rattle.variadic_layout.proofs.Inside.{Every, Inside, names-inside, output-inside, source-inside}

-- ---- what is visited is closed under names

abbrev Closed : (ℕ → List ℕ) → List ℕ → Type 0
Closed names done = (x u : ℕ) → Memᴰ x done → Memᴰ u (names x) → Memᴰ u done

-- `after` has `done` and `vs`, and what its members name
record Grown (names : ℕ → List ℕ) (done after vs : List ℕ) : Type 0 where
  keeps : (x : ℕ) → Memᴰ x done → Memᴰ x after
  whole : Closed names after
  has : (v : ℕ) → Memᴰ v vs → Memᴰ v after

first_or_rest : {P : ℕ → Type 0} {v : ℕ} {vs : List ℕ} → P v → ((u : ℕ) → Memᴰ u vs → P u) → (u : ℕ) → Memᴰ u (v ∷ vs) → P u
first_or_rest {P} here rest u (mathlib.Core.List.Memᴰ.head e) = subst P (sym e) here
first_or_rest here rest u (mathlib.Core.List.Memᴰ.tail m) = rest u m

fold_grown : (names : ℕ → List ℕ) (Q : ℕ → Type 0) (f : List ℕ → ℕ → List ℕ)
    → ((done : List ℕ) (v : ℕ) → Q v → Closed names done → Grown names done (f done v) (v ∷ []))
    → (vs done : List ℕ) → Every Q vs → Closed names done → Grown names done (foldl f done vs) vs
unfolding foldl
fold_grown names Q f step [] done starts closed = record {
  keeps = λ x m. m;
  whole = closed;
  has = λ v m. absurd (mathlib.Core.List.Memᴰ.not-nil m);
}
fold_grown names Q f step (v ∷ vs) done starts closed =
    let one = step done v (starts v (mathlib.Core.List.Memᴰ.head refl)) closed in
    let rest = fold_grown names Q f step vs (f done v) (λ u m. starts u (mathlib.Core.List.Memᴰ.tail m)) one.whole in
    record {
      keeps = λ x m. rest.keeps x (one.keeps x m);
      whole = rest.whole;
      has = first_or_rest {P = λ u. Memᴰ u (foldl f (f done v) vs)} (rest.keeps v (one.has v (mathlib.Core.List.Memᴰ.head refl))) rest.has;
    }

module _ (names : ℕ → List ℕ) (P : ℕ → Type 0) (rank : ℕ → ℕ) (closed : (v u : ℕ) → P v → Memᴰ u (names v) → P u)
    (lower : (v u : ℕ) → P v → Memᴰ u (names v) → rank u < rank v) where
  abbrev Ready : ℕ → ℕ → Type 0
  Ready d v = P v × (rank v < d)

  visit-grown : (d : ℕ) (done : List ℕ) (v : ℕ) → Ready d v → Closed names done → Grown names done (visit names d done v) (v ∷ [])
  unfolding visit
  visit-grown zero done v ready before = absurd (not-suc-le-zero ready.1)
  visit-grown (suc d) done v ready before =
      let after : List ℕ = foldl (visit names d) done (names v) in
      let grown : Grown names done after (names v) =
      fold_grown names (Ready d) (visit names d) (visit-grown d) (names v) done
      (λ u m. (closed v u ready.0 m, omega (arith, lower v u ready.0 m, ready.1))) before in
      let then : Grown names done (after ++ v ∷ []) (v ∷ []) = record {
        keeps = λ x m. mathlib.Core.List.Memᴰ.append_left (v ∷ []) (grown.keeps x m);
        whole = λ x u m k. ⊎_elim (λ (h : Memᴰ x after). mathlib.Core.List.Memᴰ.append_left (v ∷ []) (grown.whole x u h k))
            (λ (h : Memᴰ x (v ∷ [])).
            mathlib.Core.List.Memᴰ.append_left (v ∷ []) (grown.has u (subst (λ (y : ℕ). Memᴰ u (names y)) (mathlib.Core.List.Memᴰ.eq_of_singleton h) k)))
            (mathlib.Core.List.Memᴰ.append_cases after m);
        has = λ u m. mathlib.Core.List.Memᴰ.append_right after m;
      } in
      ⊎_elim
      (λ (t : member v done ≡ true).
      rw t (record {
        keeps = λ x m. m;
        whole = before;
        has = λ u m. subst (λ (y : ℕ). Memᴰ y done) (sym (mathlib.Core.List.Memᴰ.eq_of_singleton m)) (member_mem v done t);
      }))
      (λ (t : member v done ≡ false). rw t then)
      (decided (member v done))

  visits_grown : (d : ℕ) (vs : List ℕ) → Every (Ready d) vs → Grown names [] (foldl (visit names d) [] vs) vs
  visits_grown d vs starts =
      fold_grown names (Ready d) (visit names d) (visit-grown d) vs [] starts (λ x u m k. absurd (mathlib.Core.List.Memᴰ.not-nil m))

-- ---- the source's order

module _ (block : List ℕ) (n : ℕ) (layout : BlockLayout block) (some : 1 ≤ n) (few : n ≤ field_limit) where
  abbrev r : VariadicRule
  r = variadic_of block

  abbrev order : List ℕ
  order = source_order r n

  order-grown : Grown (side_names block 0 0 (byte_at block 14) n) [] order (outputs_from block 10 0 0)
  order-grown =
      let s = source_count block in
      let side = layout.source.side in
      let names = side_names block 0 0 (byte_at block 14) n in
      subst (λ (l : List ℕ). Grown names [] l (outputs_from block 10 0 0)) (source-order block n some side layout.source_outputs)
      (visits_grown names (Inside s n) (λ c. original c) (λ v u. names-inside block 0 0 s (byte_at block 14) n side some v u)
      (λ v u p m. names_lower block 0 0 s (byte_at block 14) n side some v p.vertex u m) s (outputs_from block 10 0 0)
      (λ u m. let inside = output-inside block 0 0 s (byte_at block 14) n side some 10 layout.source_outputs u m in (inside, inside.vertex)))

  order-names : (x u : ℕ) → Memᴰ x order → Memᴰ u (source_names r n x) → Memᴰ u order
  order-names x u m k =
      order-grown.whole x u m (rw (source-names block n x (source-inside block n layout some few x m).vertex) k)

  order-outputs : (o : ℕ) → Memᴰ o r.plain.source_outputs → Memᴰ o order
  order-outputs o m = order-grown.has o (rw (source-outputs block) m)

  -- ---- all copies

  shared : (i v : ℕ) → r.source_template v ≡ false → source_copy r n i v ≡ v
  unfolding source_copy
  shared i v t = rw t refl

  template : (i v : ℕ) → r.source_template v ≡ true → source_copy r n i v ≡ copy v i
  unfolding source_copy
  template i v t = rw t refl

  -- the named Tuple names every copy of what it names, and another copy that of its index
  tuple-names : (v i : ℕ) → r.source_tuple < side_limit → Memᴰ v (source_inputs r.plain r.source_tuple) → i < n
      → Memᴰ (source_copy r n (suc i) v) (source_names r n r.source_tuple)
  unfolding source_names fields
  tuple-names v i small m l =
      let t = r.source_tuple in
      let same : original t ≡ t = omega arith in
      let row : ℕ → ℕ = λ k. source_copy r n (suc k) v in
      rw (eq-eqb t t refl, same) (mem_concat (λ p. tabulate n (λ k. source_copy r n (suc k) p)) m
      (subst (λ (c : ℕ). Memᴰ c (tabulate n row)) (get_or_tabulate n row i 0 l) (mem-at (tabulate n row) i 0 (rw (length-tabulate n row) l))))

  copy-names : (v w i c : ℕ) → (c ≡ r.source_tuple → ⊥) → original c ≡ w → copy_index c ≡ i → Memᴰ v (source_inputs r.plain w)
      → Memᴰ (source_copy r n i v) (source_names r n c)
  unfolding source_names fields
  copy-names v w i c other same index m = rw (ne_eqb c r.source_tuple other, same, index) (mathlib.Core.List.Memᴰ.map (source_copy r n i) m)

  module _ (b : Templated r) where
    abbrev All : ℕ → Type 0
    All v = (i : ℕ) → 1 ≤ i → i ≤ n → Memᴰ (source_copy r n i v) order

    -- the vertex itself, where it is shared
    all_shared : (v : ℕ) → r.source_template v ≡ false → All v → Memᴰ v order
    all_shared v t all = subst (λ (c : ℕ). Memᴰ c order) (shared 1 v t) (all 1 (omega arith) some)

    from-tuple : (v w : ℕ) → w ≡ r.source_tuple → Reads (source_inputs r.plain) w v → All w → All v
    from-tuple v w same e all i l k =
        let t = r.source_tuple in
        let small : t < side_limit = omega (arith, b.tuple_inside, b.few) in
        let here : Memᴰ t order = all_shared t b.tuple_shared (rw same at all) in
        let next : suc (i - 1) ≡ i = omega arith in
        subst (λ (j : ℕ). Memᴰ (source_copy r n j v) order) next
        (order-names t (source_copy r n (suc (i - 1)) v) here (tuple-names v (i - 1) small (rw same at e) (omega arith)))

    from_template : (v w : ℕ) → w < side_limit → r.source_template w ≡ true → Reads (source_inputs r.plain) w v → All w → All v
    from_template v w small t e all i l k =
        let c = copy w i in
        let here : Memᴰ c order = subst (λ (x : ℕ). Memᴰ x order) (template i w t) (all i l k) in
        order-names c (source_copy r n i v) here
        (copy-names v w i c (λ same. omega (arith, b.tuple_inside, b.few)) (omega arith) (omega arith) e)

    from_shared : (v w : ℕ) → w < side_limit → (w ≡ r.source_tuple → ⊥) → r.source_template w ≡ false → r.source_template v ≡ false
        → Reads (source_inputs r.plain) w v → All w → All v
    from_shared v w small other t s e all i l k =
        let here : Memᴰ w order = all_shared w t all in
        subst (λ (x : ℕ). Memᴰ x order) (shared 0 v s ∙ sym (shared i v s))
        (order-names w (source_copy r n 0 v) here (copy-names v w 0 w other (omega arith) (omega arith) e))

    from-reader : (v w : ℕ) → w < side_limit → Reads (source_inputs r.plain) w v → All w → All v
    from-reader v w small e all = ⊎_elim
        (λ (t : eqb w r.source_tuple ≡ true). from-tuple v w (eqb-true w r.source_tuple t) e all)
        (λ (t : eqb w r.source_tuple ≡ false).
        let other = eqb-false w r.source_tuple t in ⊎_elim
        (λ (h : r.source_template w ≡ true). from_template v w small h e all)
        (λ (h : r.source_template w ≡ false). ⊎_elim
        (λ (k : r.source_template v ≡ true).
        ⊎_elim (λ (same : w ≡ r.source_tuple). absurd (other same)) (λ (u : r.source_template w ≡ true). absurd (true_not_false u h)) (b.named w v e k))
        (λ (k : r.source_template v ≡ false). from_shared v w small other h k e all)
        (decided (r.source_template v)))
        (decided (r.source_template w)))
        (decided (eqb w r.source_tuple))

    -- down from the last vertex, since readers are higher
    all_from : (k v : ℕ) → v < length r.plain.source → length r.plain.source ≤ v + k → All v
    all_from zero v l e = absurd (omega arith)
    all_from (suc k) v l e = ⊎_elim
        (λ (t : member v r.plain.source_outputs ≡ true).
        let m = member_mem v r.plain.source_outputs t in
        λ i a z. subst (λ (c : ℕ). Memᴰ c order) (sym (shared i v (b.shared_outputs v m))) (order-outputs v m))
        (λ (t : (w : ℕ) × Reads (source_inputs r.plain) w v).
        let above : v < t.0 = b.lower t.0 v t.1 in
        let inside : t.0 < length r.plain.source = source-reader r.plain t.0 v t.1 in
        from-reader v t.0 (omega (arith, b.few)) t.1 (all_from k t.0 inside (omega arith)))
        (b.read v l)

    pub all_copies : (v : ℕ) → v < source_count block → (i : ℕ) → 1 ≤ i → i ≤ n → Memᴰ (source_copy r n i v) order
    unfolding variadic_of
    all_copies v l =
        let size : length r.plain.source ≡ source_count block = length-map (rule_of block).source unmarked ∙ length-source block in
        all_from (length r.plain.source) v (omega arith) (omega arith)
