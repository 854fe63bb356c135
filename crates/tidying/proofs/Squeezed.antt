-- The squeezed table: where each vertex goes, that the table is sound, and that a second squeeze changes nothing.
-- Assumes nothing.
use mathlib.Core.Path.{◌≡◌, sym, ap, ◌∙◌, subst}
use mathlib.Core.Bool.{true, false}
use mathlib.Core.List.Memᴰ
use mathlib.Core.List.{List, map, map-id, Memᴰ}
use mathlib.Core.Logic.{⊎_elim}
use Prim.Native.Nat.{ℕ, ◌<◌, ◌≤◌}
use native.Mathlib.Omega.{arith}
use borrow.Author.Tests.{lt-ltb, le-ltb, ltb-true, ltb-false}
use lib.Dec.{ltb}
use lib.ListN.{length, get_or, length-map}
use lib.Seq.{ext_get_or}
use Rattle.definitions.specs.Lists.{filter, member, position, range}
use Rattle.definitions.specs.Paths.{Reads, Acyclic}
use Rattle.definitions.specs.Graph.{unused_place, Slot, Graph, empty_slot, renamed, slot_of, inputs_of, is_vertex}
use Rattle.definitions.specs.Squeeze.{vertices_of, moved_to, squeezed_slot, squeeze}
use Rattle.laws.proofs.Lists.{decided, true_not_false, length-tabulate, get_or_tabulate, map_same}
use Rattle.laws.proofs.Graph.{slot_past, vertex-inside}
use Rattle.laws.proofs.Members.{mem_range, mem_member, position_at, position-inside}
use Rattle.laws.proofs.Filtered.{mem_filter, filtered_most, filtered_after, filtered_all, filtered_holds, filtered_place, filtered_position}
use Rattle.encoding.specs.Tables.{Table, Words}
use Rattle.encoding.proofs.Graphs.{empty_fits, renamed-fits}
use Rattle.tidying.proofs.Carried.{acyclic_back}

module _ (g : Graph) where
  abbrev slots : ℕ
  slots = length g.slots

  -- how many vertices there are
  abbrev pub vertex_count : ℕ
  vertex_count = length (vertices_of g)

  -- the slot from which the vertex of new slot k comes
  abbrev pub comes_from : ℕ → ℕ
  comes_from k = get_or (vertices_of g) k unused_place

  -- ---- where a vertex goes

  pub count_most : vertex_count ≤ slots
  unfolding vertices_of
  count_most = filtered_most (is_vertex g) slots

  listed : (v : ℕ) → is_vertex g v ≡ true → member v (vertices_of g) ≡ true
  unfolding vertices_of
  listed v t = mem_member (mem_filter (is_vertex g) (range 0 slots) (mem_range 0 slots v (omega arith) (vertex-inside g v t)) t)

  moved-place : (v : ℕ) → is_vertex g v ≡ true → moved_to g v ≡ position v (vertices_of g)
  unfolding moved_to
  moved-place v t = rw t

  -- to the number of vertices below it
  pub moved-count : (v : ℕ) → is_vertex g v ≡ true → moved_to g v ≡ length (filter (is_vertex g) (range 0 v))
  unfolding vertices_of
  moved-count v t = moved-place v t ∙ filtered_position (is_vertex g) slots v (vertex-inside g v t) t

  pub moved_empty : (v : ℕ) → is_vertex g v ≡ false → moved_to g v ≡ unused_place
  unfolding moved_to
  moved_empty v f = rw f

  pub moved_below : (v : ℕ) → is_vertex g v ≡ true → moved_to g v < vertex_count
  moved_below v t = rw (moved-place v t) (position-inside v (vertices_of g) (listed v t))

  pub moved-from : (v : ℕ) → is_vertex g v ≡ true → comes_from (moved_to g v) ≡ v
  moved-from v t = rw (moved-place v t) (position_at v (vertices_of g) unused_place (listed v t))

  pub moved_order : (v w : ℕ) → is_vertex g v ≡ true → is_vertex g w ≡ true → v < w → moved_to g v < moved_to g w
  moved_order v w t s l = omega (arith, moved-count v t, moved-count w s, filtered_after (is_vertex g) w v l t)

  pub from-vertex : (k : ℕ) → k < vertex_count → is_vertex g (comes_from k) ≡ true
  unfolding vertices_of
  from-vertex k l = filtered_holds (is_vertex g) slots k unused_place l

  pub from-moved : (k : ℕ) → k < vertex_count → moved_to g (comes_from k) ≡ k
  from-moved k l = moved-place (comes_from k) (from-vertex k l) ∙ placed k l
    where
      placed : (k : ℕ) → k < vertex_count → position (comes_from k) (vertices_of g) ≡ k
      placed k l = unfold vertices_of in filtered_place (is_vertex g) slots k unused_place l

  -- ---- slots

  pub squeezed_size : length (squeeze g).slots ≡ slots
  unfolding squeeze
  squeezed_size = length-tabulate slots (squeezed_slot g)

  pub squeezed_slot_lem : (k : ℕ) → k < vertex_count → slot_of (squeeze g) k ≡ renamed (moved_to g) (slot_of g (comes_from k))
  unfolding squeeze squeezed_slot slot_of
  squeezed_slot_lem k l =
      get_or_tabulate slots (squeezed_slot g) k empty_slot (omega (arith, count_most)) ∙ rw (lt-ltb k vertex_count l)

  pub squeezed_empty : (k : ℕ) → vertex_count ≤ k → slot_of (squeeze g) k ≡ empty_slot
  unfolding squeeze squeezed_slot slot_of
  squeezed_empty k l = ⊎_elim
      (λ (t : ltb k slots ≡ true).
      get_or_tabulate slots (squeezed_slot g) k empty_slot (ltb-true k slots t) ∙ rw (le-ltb k vertex_count l))
      (λ (t : ltb k slots ≡ false). slot_past (squeeze g) k (omega (arith, squeezed_size, ltb-false k slots t)))
      (decided (ltb k slots))

  -- at its new number a vertex has its old record, with its inputs renamed
  pub moved-slot : (v : ℕ) → is_vertex g v ≡ true → slot_of (squeeze g) (moved_to g v) ≡ renamed (moved_to g) (slot_of g v)
  moved-slot v t =
      squeezed_slot_lem (moved_to g v) (moved_below v t) ∙ ap (λ (u : ℕ). renamed (moved_to g) (slot_of g u)) (moved-from v t)

  -- the vertices are the lowest slots
  pub low-vertex : (k : ℕ) → k < vertex_count → is_vertex (squeeze g) k ≡ true
  unfolding is_vertex renamed
  low-vertex k l = rw (squeezed_slot_lem k l) (from-vertex k l)

  high_empty : (k : ℕ) → vertex_count ≤ k → is_vertex (squeeze g) k ≡ false
  unfolding is_vertex empty_slot
  high_empty k l = rw (squeezed_empty k l)

  pub vertex-low : (k : ℕ) → is_vertex (squeeze g) k ≡ true → k < vertex_count
  vertex-low k t = ⊎_elim
      (λ (s : ltb k vertex_count ≡ true). ltb-true k vertex_count s)
      (λ (s : ltb k vertex_count ≡ false). absurd (true_not_false t (high_empty k (ltb-false k vertex_count s))))
      (decided (ltb k vertex_count))

  moved-vertex : (v : ℕ) → is_vertex g v ≡ true → is_vertex (squeeze g) (moved_to g v) ≡ true
  moved-vertex v t = low-vertex (moved_to g v) (moved_below v t)

  -- ---- what a slot of the squeezed table reads

  old_edge : (k v : ℕ) → Reads (inputs_of (squeeze g)) k v
      → (k < vertex_count) × ((u : ℕ) × Reads (inputs_of g) (comes_from k) u × (moved_to g u ≡ v))
  unfolding renamed empty_slot
  old_edge k v e = ⊎_elim
      (λ (t : ltb k vertex_count ≡ true).
      let l = ltb-true k vertex_count t in
      (l, Memᴰ.of_map (moved_to g) (inputs_of g (comes_from k)) (subst (λ (s : Slot). Memᴰ v s.inputs) (squeezed_slot_lem k l) e)))
      (λ (t : ltb k vertex_count ≡ false).
      absurd (Memᴰ.not-nil (subst (λ (s : Slot). Memᴰ v s.inputs) (squeezed_empty k (ltb-false k vertex_count t)) e)))
      (decided (ltb k vertex_count))

  -- ---- the squeezed table is sound

  module _ (table : Table g) where
    pub squeezed_table : Table (squeeze g)
    unfolding squeeze
    squeezed_table = record {
      size = rw squeezed_size table.size;
      output_count = rw (length-map g.outputs (moved_to g)) table.output_count;
      shapes = λ k l. ⊎_elim
          (λ (t : ltb k vertex_count ≡ true).
          let low = ltb-true k vertex_count t in
          rw (squeezed_slot_lem k low)
          (renamed-fits (moved_to g) (slot_of g (comes_from k)) (table.shapes (comes_from k) (vertex-inside g (comes_from k) (from-vertex k low)))))
          (λ (t : ltb k vertex_count ≡ false). rw (squeezed_empty k (ltb-false k vertex_count t)) empty_fits)
          (decided (ltb k vertex_count));
      inputs = λ k v e.
          let old = old_edge k v e in
          let u = old.1.0 in
          subst (λ (x : ℕ). is_vertex (squeeze g) x ≡ true) old.1.2 (moved-vertex u (table.inputs (comes_from k) u old.1.1));
      outputs = λ v m.
          let old = Memᴰ.of_map (moved_to g) g.outputs m in
          subst (λ (x : ℕ). is_vertex (squeeze g) x ≡ true) old.2 (moved-vertex old.0 (table.outputs old.0 old.1));
    }

    pub squeezed_words : Words g → Words (squeeze g)
    unfolding renamed empty_slot
    squeezed_words words k l w m = ⊎_elim
        (λ (t : ltb k vertex_count ≡ true).
        let low = ltb-true k vertex_count t in
        words (comes_from k) (vertex-inside g (comes_from k) (from-vertex k low)) w
        (subst (λ (s : Slot). Memᴰ w s.attributes) (squeezed_slot_lem k low) m))
        (λ (t : ltb k vertex_count ≡ false).
        absurd (Memᴰ.not-nil (subst (λ (s : Slot). Memᴰ w s.attributes) (squeezed_empty k (ltb-false k vertex_count t)) m)))
        (decided (ltb k vertex_count))

    pub squeezed_acyclic : Acyclic (inputs_of g) → Acyclic (inputs_of (squeeze g))
    squeezed_acyclic = acyclic_back comes_from (λ w v e.
        let old = old_edge w v e in
        let u = old.1.0 in
        let from : comes_from v ≡ u = ap comes_from (sym old.1.2) ∙ moved-from u (table.inputs (comes_from w) u old.1.1) in
        subst (Reads (inputs_of g) (comes_from w)) (sym from) old.1.1)

-- ---- a second squeeze

module _ (g : Graph) where
  -- a vertex of a squeezed table stays where it is
  pub moved_self : (k : ℕ) → is_vertex (squeeze g) k ≡ true → moved_to (squeeze g) k ≡ k
  moved_self k t =
      moved-count (squeeze g) k t
      ∙ filtered_all (is_vertex (squeeze g)) k (λ i l. low-vertex g i (omega (arith, vertex-low g k t)))

  -- there are no more vertices than before
  count_same : vertex_count (squeeze g) ≤ vertex_count g
  count_same = ⊎_elim
      (λ (t : ltb (vertex_count g) (vertex_count (squeeze g)) ≡ true).
      let l = ltb-true (vertex_count g) (vertex_count (squeeze g)) t in
      let v = comes_from (squeeze g) (vertex_count g) in
      let vertex = from-vertex (squeeze g) (vertex_count g) l in
      absurd (omega (arith, vertex-low g v vertex, moved_self v vertex, from-moved (squeeze g) (vertex_count g) l)))
      (λ (t : ltb (vertex_count g) (vertex_count (squeeze g)) ≡ false). ltb-false (vertex_count g) (vertex_count (squeeze g)) t)
      (decided (ltb (vertex_count g) (vertex_count (squeeze g))))

  module _ (table : Table g) where
    abbrev once : Graph
    once = squeeze g

    names_same : (xs : List ℕ) → ((v : ℕ) → Memᴰ v xs → is_vertex once v ≡ true) → map (moved_to once) xs ≡ xs
    names_same xs vertices = map_same (moved_to once) (λ v. v) xs (λ v m. moved_self v (vertices v m)) ∙ map-id xs

    slot_same : (k : ℕ) → slot_of (squeeze once) k ≡ slot_of once k
    unfolding renamed
    slot_same k = ⊎_elim
        (λ (t : is_vertex once k ≡ true).
        let s = slot_of once k in
        ap (slot_of (squeeze once)) (sym (moved_self k t)) ∙ moved-slot once k t
        ∙ ap (λ (xs : List ℕ). record { kind = s.kind; operator = s.operator; inputs = xs; attributes = s.attributes })
        (names_same s.inputs ((squeezed_table g table).inputs k)))
        (λ (f : is_vertex once k ≡ false).
        let past : vertex_count g ≤ k = not_low k f in
        squeezed_empty once k (omega (arith, count_same)) ∙ sym (squeezed_empty g k past))
        (decided (is_vertex once k))
      where
        not_low : (k : ℕ) → is_vertex once k ≡ false → vertex_count g ≤ k
        not_low k f = ⊎_elim
            (λ (s : ltb k (vertex_count g) ≡ true). absurd (true_not_false (low-vertex g k (ltb-true k (vertex_count g) s)) f))
            (λ (s : ltb k (vertex_count g) ≡ false). ltb-false k (vertex_count g) s)
            (decided (ltb k (vertex_count g)))

    -- squeezing a squeezed table changes nothing
    pub squeezed_twice : squeeze once ≡ once
    unfolding slot_of squeeze
    squeezed_twice =
        let same : (squeeze once).slots ≡ once.slots =
        ext_get_or empty_slot (squeeze once).slots once.slots (squeezed_size once) (λ k l. slot_same k) in
        let outputs : (squeeze once).outputs ≡ once.outputs = names_same once.outputs (squeezed_table g table).outputs in
        λ i. record { slots = same i; outputs = outputs i }
