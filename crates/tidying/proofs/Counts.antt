-- A squeeze keeps counts: as many places name a vertex at its new number as named it at its old one.
-- Assumes nothing.
use mathlib.Core.Path.{◌≡◌, sym, ap, ap₂, ◌∙◌}
use mathlib.Core.Bool.{true, false, cond}
use mathlib.Core.List.{List, map, Memᴰ}
use mathlib.Core.Logic.{⊎_elim}
use Prim.Native.Nat.{ℕ, ◌+◌, ◌<◌, ◌≤◌}
use borrow.Author.Tests.{eqb-true, not-false}
use lib.Dec.{eqb}
use lib.ListN.{length}
use Rattle.definitions.specs.Lists.{total, count, range}
use Rattle.definitions.specs.Operators.{kind_empty, row_of, kinds}
use Rattle.definitions.specs.Graph.{unused_place, Slot, Graph, empty_slot, renamed, slot_of, inputs_of, is_vertex, reads_of, true_count}
use Rattle.definitions.specs.Squeeze.{vertices_of, moved_to, squeeze}
use Rattle.laws.proofs.Lists.{decided}
use Rattle.laws.proofs.Graph.{reader-inside}
use Rattle.laws.proofs.Sums.{count_none, count_map, total_same, total-low, sum_over, sum_filter, sum_range, sum_places}
use Rattle.encoding.specs.Tables.{Table}
use Rattle.tidying.proofs.Swept.{leaf_reads}
use Rattle.tidying.proofs.Squeezed.{vertex_count, comes_from, count_most, moved-from, squeezed_size, squeezed_slot_lem, squeezed_empty}

-- how many input places of slot w name v
abbrev names : Graph → ℕ → ℕ → ℕ
names g v w = count v (inputs_of g w)

module _ (g : Graph) (table : Table g) (v : ℕ) where
  -- ---- before

  -- the tables give an Empty slot no inputs
  empty_names : (w : ℕ) → is_vertex g w ≡ false → names g v w ≡ 0
  unfolding is_vertex row_of kinds
  empty_names w f =
      let kind : (slot_of g w).kind ≡ kind_empty =
      eqb-true (slot_of g w).kind kind_empty (not-false (eqb (slot_of g w).kind kind_empty) f) in
      count_none v (inputs_of g w) (λ m. leaf_reads g table w v (rw kind) (rw kind) (reader-inside g w v m) m)

  -- so the sum over all slots is the sum over the vertices
  old-reads : reads_of g v ≡ sum_over (names g v) (vertices_of g)
  unfolding reads_of vertices_of
  old-reads =
      let slots : ℕ = length g.slots in
      let kept : ℕ → ℕ = λ w. cond (is_vertex g w) (names g v w) 0 in
      total_same (names g v) kept slots
      (λ w l. ⊎_elim
      (λ (t : is_vertex g w ≡ true). rw t)
      (λ (f : is_vertex g w ≡ false). rw f (empty_names w f))
      (decided (is_vertex g w)))
      ∙ sym (sum_range kept slots)
      ∙ sym (sum_filter (names g v) (is_vertex g) (range 0 slots))

  module _ (vertex : is_vertex g v ≡ true) where
    -- ---- after

    -- two vertices never go to the same slot, so the new name of v stands just where v stood
    renamed-count : (xs : List ℕ) → ((u : ℕ) → Memᴰ u xs → is_vertex g u ≡ true)
        → count (moved_to g v) (map (moved_to g) xs) ≡ count v xs
    renamed-count xs vertices =
        count_map (moved_to g) v xs
        (λ u m e. sym (moved-from g v vertex) ∙ ap (comes_from g) e ∙ moved-from g u (vertices u m))

    -- a low slot has the places of the vertex that came there, and behind them all slots are Empty
    low-names : (k : ℕ) → k < vertex_count g → names (squeeze g) (moved_to g v) k ≡ names g v (comes_from g k)
    unfolding renamed
    low-names k l =
        ap (λ (s : Slot). count (moved_to g v) s.inputs) (squeezed_slot_lem g k l)
        ∙ renamed-count (inputs_of g (comes_from g k)) (table.inputs (comes_from g k))

    high_names : (k : ℕ) → vertex_count g ≤ k → names (squeeze g) (moved_to g v) k ≡ 0
    unfolding empty_slot count
    high_names k l = ap (λ (s : Slot). count (moved_to g v) s.inputs) (squeezed_empty g k l)

    -- so here, too, the sum over all slots is the sum over the old vertices, in their order
    new-reads : reads_of (squeeze g) (moved_to g v) ≡ sum_over (names g v) (vertices_of g)
    unfolding reads_of
    new-reads =
        let new : ℕ → ℕ = names (squeeze g) (moved_to g v) in
        ap (total new) (squeezed_size g)
        ∙ total-low new (length g.slots) (vertex_count g) (count_most g) high_names
        ∙ total_same new (λ k. names g v (comes_from g k)) (vertex_count g) low-names
        ∙ sym (sum_places (names g v) (vertices_of g) unused_place)

-- the outputs are renamed as the inputs are
pub squeezed_count : (g : Graph) → Table g → (v : ℕ) → is_vertex g v ≡ true → true_count (squeeze g) (moved_to g v) ≡ true_count g v
unfolding true_count squeeze
squeezed_count g table v vertex =
    ap₂ ◌+◌ (new-reads g table v vertex ∙ sym (old-reads g table v))
    (renamed-count g table v vertex g.outputs table.outputs)
