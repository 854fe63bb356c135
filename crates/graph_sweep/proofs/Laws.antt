-- The marks of the slots that go, and the block that is emptied slot by slot.
-- Assumes nothing.
use mathlib.Core.Path.{◌≡◌, refl, sym, ap, ap₂, ◌∙◌}
use mathlib.Core.Bool.{Bool, true, false, not, ◌&&◌}
use mathlib.Core.List.{List}
use mathlib.Core.Logic.{⊎_elim}
use Prim.Native.Nat.{ℕ, ◌+◌, ◌<◌}
use native.Mathlib.Nat.{not-suc-le-zero}
use native.Mathlib.Omega.{arith}
use borrow.Author.Tests.{eqb-true, eqb-false}
use lib.Dec.{eqb}
use lib.ListN.{length, take, set, replicate, length-set, length-replicate}
use lib.Seq.{get_or-set_same, get_or-set_other}
use Rattle.definitions.specs.Fields.{Bytes}
use Rattle.definitions.specs.Paths.{is_marked}
use Rattle.definitions.specs.Graph.{header_bytes, slot_limit, graph_version, slot_count, record_at, Slot, Graph, empty_slot, graph_of, slot_of, inputs_of, is_vertex, is_variable, true_count, count_tail, slot_block, header_block, SoundGraph}
use Rattle.definitions.specs.Sweep.{reaching_outputs, is_unneeded, sweep}
use Rattle.laws.specs.Marked.{Marked}
use Rattle.laws.proofs.Lists.{decided}
use Rattle.laws.proofs.Graph.{length-slots, vertex-inside}
use Rattle.theory.proofs.Results.{named_table}
use Rattle.reachability.specs.Marks.{Marks}
use Rattle.reachability.proofs.Marks.{marks_unique}
use Rattle.reachability.proofs.Reaching.{reaching-marks}
use Rattle.encoding.specs.Tables.{Table}
use Rattle.encoding.proofs.Tails.{zero_tail}
use Rattle.encoding.proofs.Blocks.{block-length, header_cut, record_cut, holdable}
use Rattle.encoding.proofs.Graphs.{table_of, canonical}
use Rattle.graph_records.specs.Records.{slot_at}
use Rattle.graph_slots.specs.Written.{empty_bytes, Halfway}
use Rattle.tidying.proofs.Swept.{swept_size, stays-slot, goes-slot, swept_table}
use Rattle.graph_sweep.specs.Emptied.{old_counts, emptied}

-- ---- marks, one slot after the other

module _ {test : ℕ → Bool} where
  pub marked_none : Marked test 0 (replicate 512 false)
  marked_none = record { size = length-replicate 512 false; each = λ k l. absurd (not-suc-le-zero l) }

  pub marked_more : {marks : List Bool} {b : Bool} (v : ℕ) → v < slot_limit → Marked test v marks → b ≡ test v → Marked test (v + 1) (set marks v b)
  marked_more {marks} {b} v l m e = record {
    size = simp length-set m.size;
    each = λ k below. ⊎_elim
        (λ (s : eqb k v ≡ true). rw (eqb-true k v s) (get_or-set_same marks v b false (omega (arith, m.size)) ∙ e))
        (λ (s : eqb k v ≡ false).
        get_or-set_other marks v k b false (eqb-false k v s) ∙ m.each k (omega (arith, eqb-false k v s)))
        (decided (eqb k v));
  }

module _ (block : List ℕ) (sound : SoundGraph block) where
  -- the marks that the code makes are the definition's
  pub same_unneeded : (needed : List Bool) → Marks (inputs_of (graph_of block)) (graph_of block).outputs (is_marked needed)
      → (v : ℕ) → is_unneeded (graph_of block) needed v ≡ is_unneeded (graph_of block) (reaching_outputs (graph_of block)) v
  unfolding is_unneeded reaching_outputs
  same_unneeded needed marks v =
      let g = graph_of block in
      ap (λ (b : Bool). is_vertex g v && not (is_variable g v) && not b)
      (marks_unique marks (reaching-marks (named_table g sound.form.inputs) g.outputs (λ u m. vertex-inside g u (sound.form.outputs u m))) v)

  -- ---- the block, emptied slot by slot

  module _ (bytes : Bytes block) where
    abbrev g : Graph
    g = graph_of block

    abbrev new : List ℕ
    new = emptied g

    table : Table g
    table = table_of block sound

    pub after_table : Table (sweep g)
    after_table = swept_table g table

    -- the header stays
    pub swept_start : Halfway 0 block new block
    unfolding sweep
    swept_start =
        let old = canonical block sound bytes in
        record {
          size = ap length (sym old) ∙ block-length g (holdable g table) graph_version (true_count g) ∙ ap record_at (sym (swept_size g table))
              ∙ sym (block-length (sweep g) (holdable (sweep g) after_table) graph_version (old_counts g));
          front = ap (take header_bytes) (sym old) ∙ header_cut g (holdable g table) graph_version (true_count g)
              ∙ ap (λ (n : ℕ). header_block graph_version n g.outputs) (sym (swept_size g table))
              ∙ sym (header_cut (sweep g) (holdable (sweep g) after_table) graph_version (old_counts g));
          back = refl;
        }

    module _ (v : ℕ) (inside : v < slot_count block) where
      slot-new : slot_at new (record_at v) ≡ slot_block (count_tail (old_counts g v)) (slot_of (sweep g) v)
      unfolding slot_at
      slot-new =
          record_cut (sweep g) (holdable (sweep g) after_table) graph_version (old_counts g) v (omega (arith, swept_size g table, length-slots block))

      slot-old : slot_at block (record_at v) ≡ slot_block (count_tail (true_count g v)) (slot_of g v)
      unfolding slot_at
      slot-old =
          ap (λ (b : List ℕ). slot_at b (record_at v)) (sym (canonical block sound bytes))
          ∙ record_cut g (holdable g table) graph_version (true_count g) v (omega (arith, length-slots block))

      pub swept_keep : is_unneeded g (reaching_outputs g) v ≡ false → slot_at new (record_at v) ≡ slot_at block (record_at v)
      unfolding old_counts
      swept_keep f =
          let count : old_counts g v ≡ true_count g v = simp f in
          slot-new ∙ ap₂ (λ (n : ℕ) (s : Slot). slot_block (count_tail n) s) count (stays-slot g table v f) ∙ sym slot-old

      pub swept_clear : is_unneeded g (reaching_outputs g) v ≡ true → slot_at new (record_at v) ≡ empty_bytes
      unfolding empty_bytes old_counts
      swept_clear t =
          let count : old_counts g v ≡ 0 = simp t in
          slot-new ∙ ap₂ (λ (n : ℕ) (s : Slot). slot_block (count_tail n) s) count (goes-slot g table v t)
          ∙ ap (λ (tail : List ℕ). slot_block tail empty_slot) zero_tail

    pub swept_end : length new ≡ record_at (slot_count block)
    swept_end = block-length (sweep g) (holdable (sweep g) after_table) graph_version (old_counts g) ∙ ap record_at (swept_size g table ∙ length-slots block)
