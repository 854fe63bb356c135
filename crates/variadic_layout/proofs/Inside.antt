-- Every copy of an order is a copy of a vertex of its side, of an index up to n.
-- Assumes nothing.
use mathlib.Core.Path.{◌≡◌, refl, sym, subst}
use mathlib.Core.Bool.{true, false, cond}
use mathlib.Core.List.Memᴰ
use mathlib.Core.List.{List, [], ◌∷◌, ◌++◌, Memᴰ}
use mathlib.Core.Logic.{⊎_elim}
use Prim.Native.Nat.{ℕ, zero, suc, ◌+◌, ◌-◌, ◌*◌, ◌/◌, ◌%◌, ◌<◌, ◌≤◌}
use native.Mathlib.Nat.{mod-lt, mod-le, div-lt_iff_lt-mul}
use native.Mathlib.Omega.{arith}
use borrow.Author.Tests.{ltb-false, eqb-true, eqb-false}
use lib.Dec.{eqb, ltb}
use lib.ListN.{get_or}
use lib.Seq.{get_or-take}
use Rattle.definitions.specs.Lists.{foldl, member, range}
use Rattle.definitions.specs.Fields.{byte_at}
use Rattle.definitions.specs.Paths.{visit}
use Rattle.definitions.specs.Rule.{side_limit, target_base, source_count, target_count, rule_output_count}
use Rattle.definitions.specs.Variadic.{original, copy_index, source_order, target_order}
use Rattle.definitions.specs.VariadicBlock.{field_limit, expanded_limit, marked, variadic_of}
use Rattle.laws.proofs.Lists.{decided}
use Rattle.laws.proofs.Members.{concat_mem, range_mem, mem-at}
use Rattle.variadic_order.specs.Order.{Ordered}
use Rattle.variadic_order.specs.Sides.{place_count, place_of, side_copy, place_names, field_count, field_names, names_from, side_names, outputs_from, SideLayout, OutputLayout}
use Rattle.variadic_order.proofs.Fields.{tuple-count, tuple-names, other_count, other_names_lem}
use Rattle.variadic_order.proofs.Orders.{ordered_size}
use Rattle.variadic_order.proofs.Sides.{names_lower, source-order, target-order}
use Rattle.variadic_layout.specs.Written.{RecordLayout, BlockLayout, CopyOf}

-- ---- what holds of the starts and of what is named holds of all that is visited

abbrev pub Every : (ℕ → Type 0) → List ℕ → Type 0
Every P xs = (x : ℕ) → Memᴰ x xs → P x

fold_every : (P : ℕ → Type 0) (f : List ℕ → ℕ → List ℕ) → ((done : List ℕ) (v : ℕ) → P v → Every P done → Every P (f done v))
    → (us done : List ℕ) → Every P us → Every P done → Every P (foldl f done us)
unfolding foldl
fold_every P f step [] done us before = before
fold_every P f step (u ∷ us) done next before =
    fold_every P f step us (f done u) (λ x m. next x (Memᴰ.tail m)) (step done u (next u (Memᴰ.head refl)) before)

module _ (names : ℕ → List ℕ) (P : ℕ → Type 0) (closed : (v u : ℕ) → P v → Memᴰ u (names v) → P u) where
  visit_every : (d : ℕ) (done : List ℕ) (v : ℕ) → P v → Every P done → Every P (visit names d done v)
  unfolding visit
  visit_every zero done v here before = before
  visit_every (suc d) done v here before =
      let after : List ℕ = foldl (visit names d) done (names v) in
      let among : Every P after = fold_every P (visit names d) (visit_every d) (names v) done (λ u m. closed v u here m) before in
      let then : Every P (after ++ v ∷ []) = λ x m. ⊎_elim (λ (k : Memᴰ x after). among x k)
      (λ (k : Memᴰ x (v ∷ [])). subst P (sym (Memᴰ.eq_of_singleton k)) here) (Memᴰ.append_cases after m) in
      ⊎_elim (λ (t : member v done ≡ true). rw t before) (λ (t : member v done ≡ false). rw t then) (decided (member v done))

  pub visits_every : (d : ℕ) (vs : List ℕ) → Every P vs → Every P (foldl (visit names d) [] vs)
  visits_every d vs starts = fold_every P (visit names d) (visit_every d) vs [] starts (λ x m. absurd (Memᴰ.not-nil m))

-- ---- the copies of a side

pub record Inside (vertices n c : ℕ) : Type 0 where
  pub vertex : original c < vertices
  pub index : copy_index c ≤ n

copy_index_lem : (block : List ℕ) (first i u : ℕ) → u < side_limit → copy_index (side_copy block first i u) ≤ i
unfolding side_copy
copy_index_lem block first i u l =
    ⊎_elim (λ (t : marked block (first + u) ≡ true). rw t (omega arith))
    (λ (t : marked block (first + u) ≡ false). rw t (omega arith))
    (decided (marked block (first + u)))

module _ (block : List ℕ) (first base vertices tuple n : ℕ) (layout : SideLayout block first base vertices) (some : 1 ≤ n) where
  module _ (c : ℕ) (here : Inside vertices n c) where
    place_index : (i j u : ℕ) → i ≤ n → j < place_count block first (original c)
        → Memᴰ u (place_names block first base i (place_of block first (original c) j)) → copy_index u ≤ n
    unfolding place_names
    place_index i j u few l m =
        let p = place_of block first (original c) j in
        let below : p < base + original c = layout.lower (original c) j here.vertex l in ⊎_elim
        (λ (t : ltb p base ≡ true). absurd (Memᴰ.not-nil (rw t at m)))
        (λ (t : ltb p base ≡ false).
        let e : u ≡ side_copy block first i (p - base) = Memᴰ.eq_of_singleton (rw t at m) in
        let from : base ≤ p = ltb-false p base t in
        let small : p - base < side_limit = omega arith in
        rw e (omega (arith, copy_index_lem block first i (p - base) small)))
        (decided (ltb p base))

    field_index_lem : (i u : ℕ) → i < field_count block first base tuple n c → Memᴰ u (field_names block first base tuple n c i)
        → copy_index u ≤ n
    field_index_lem i u l m = ⊎_elim
        (λ (t : eqb c tuple ≡ true).
        let same : c ≡ tuple = eqb-true c tuple t in
        let inside : i < place_count block first (original c) * n = rw (tuple-count block first base tuple n c same) at l in
        place_index (suc (i % n)) (i / n) u (omega (arith, mod-lt i some)) ((div-lt_iff_lt-mul some).1 inside)
        (rw (tuple-names block first base tuple n c same i) at m))
        (λ (t : eqb c tuple ≡ false).
        let other : c ≡ tuple → ⊥ = eqb-false c tuple t in
        place_index (copy_index c) i u here.index (rw (other_count block first base tuple n c other) at l)
        (rw (other_names_lem block first base tuple n c other i) at m))
        (decided (eqb c tuple))

    names_index : (u : ℕ) → Memᴰ u (side_names block first base tuple n c) → copy_index u ≤ n
    unfolding side_names names_from
    names_index u m =
        let found = concat_mem (λ i. field_names block first base tuple n c i) (range 0 (field_count block first base tuple n c)) m in
        field_index_lem found.0 u (range_mem 0 (field_count block first base tuple n c) found.1).1 found.2

  pub names-inside : (c u : ℕ) → Inside vertices n c → Memᴰ u (side_names block first base tuple n c) → Inside vertices n u
  names-inside c u here m = record {
    vertex = omega (arith, here.vertex, names_lower block first base vertices tuple n layout some c here.vertex u m);
    index = names_index c here u m;
  }

  pub output-inside : (at : ℕ) → OutputLayout block at base vertices → (u : ℕ) → Memᴰ u (outputs_from block at base 0) → Inside vertices n u
  unfolding outputs_from
  output-inside at outputs u m =
      let found = concat_mem (λ k. let p = byte_at block (at + k) in cond (ltb p base) [] ((p - base) ∷ [])) (range 0 (rule_output_count block)) m in
      let p = byte_at block (at + found.0) in
      let below : p < base + vertices = outputs.inside found.0 (range_mem 0 (rule_output_count block) found.1).1 in ⊎_elim
      (λ (t : ltb p base ≡ true). absurd (Memᴰ.not-nil (rw t at found.2)))
      (λ (t : ltb p base ≡ false).
      let e : u ≡ p - base = Memᴰ.eq_of_singleton (rw t at found.2) in
      let vertex : u < vertices = omega (arith, ltb-false p base t) in
      let few = layout.few in
      record { vertex = omega (arith, mod-le u side_limit); index = omega arith })
      (decided (ltb p base))

  order-inside : (at : ℕ) → OutputLayout block at base vertices
      → Every (Inside vertices n) (foldl (visit (side_names block first base tuple n) vertices) [] (outputs_from block at base 0))
  order-inside at outputs =
      visits_every (side_names block first base tuple n) (Inside vertices n) (λ v u. names-inside v u) vertices (outputs_from block at base 0)
      (output-inside at outputs)

-- ---- the copies of the orders

module _ (block : List ℕ) (n : ℕ) (layout : BlockLayout block) (some : 1 ≤ n) (few : n ≤ field_limit) where
  pub source-inside : (c : ℕ) → Memᴰ c (source_order (variadic_of block) n) → Inside (source_count block) n c
  source-inside c m =
      order-inside block 0 0 (source_count block) (byte_at block 14) n layout.source.side some 10 layout.source_outputs c
      (rw (← source-order block n some layout.source.side layout.source_outputs) at m)

  pub target-inside : (c : ℕ) → Memᴰ c (target_order (variadic_of block) n) → Inside (target_count block) n c
  target-inside c m =
      order-inside block (source_count block) target_base (target_count block) (byte_at block 15) n layout.target.side some 12
      layout.target_outputs c (rw (← target-order block n some layout.target.side layout.target_outputs) at m)

  -- so each of them is a copy as the writers ask
  module _ {first base vertices tuple : ℕ} (records : RecordLayout block first base vertices tuple) where
    pub inside-copy : (c : ℕ) → Inside vertices n c → CopyOf block first base tuple n c
    inside-copy c here = record {
      vertices = vertices;
      layout = records;
      some = some;
      few = few;
      below =
          let v = here.vertex in
          let i = here.index in
          let s = records.side.few in
          omega arith;
      vertex = here.vertex;
    }

-- the copies that are kept are those of the order
pub ordered_at : {order copies numbers : List ℕ} {count : ℕ} → Ordered order copies numbers count → count ≤ expanded_limit
    → (j : ℕ) → j < count → get_or copies j 0 ≡ get_or order j 0
ordered_at {copies = copies} {count = count} o l j k = rw (← o.whole l) (sym (get_or-take count copies j 0 k))

pub ordered_member : {order copies numbers : List ℕ} {count : ℕ} → Ordered order copies numbers count → count ≤ expanded_limit
    → (j : ℕ) → j < count → Memᴰ (get_or copies j 0) order
ordered_member {order} o l j k = rw (ordered_at o l j k) (mem-at order j 0 (omega (arith, ordered_size o l)))
