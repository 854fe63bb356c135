-- Whether a slot is on a cycle, by marks from its inputs on; and the lowest slot of which that holds.
-- Assumes nothing.
use mathlib.Core.Path.{◌≡◌, refl, sym, ◌∙◌}
use mathlib.Core.Bool.{Bool, true, false}
use mathlib.Core.List.{List}
use Prim.Native.Nat.{ℕ, ◌<◌, ◌≤◌}
use lib.ListN.{length, take}
use lib.Seq.{take_all}
use Rattle.definitions.specs.Lists.{lowest}
use Rattle.definitions.specs.Graph.{slot_count, graph_of, inputs_of, lowest_on_cycle, has_cycle}
use Rattle.definitions.specs.Paths.{is_marked, on_cycle}
use Rattle.laws.proofs.Lists.{fails, lowest_none}
use Rattle.laws.proofs.Graph.{length-slots}
use Rattle.theory.proofs.Paths.{Table}
use Rattle.graph_fields.specs.Layout.{Closed}
use Rattle.acyclic.proofs.Laws.{table, slots_table}
use Rattle.reachability.specs.Marks.{Marks}
use Rattle.reachability.proofs.Marks.{marks_unique}
use Rattle.reachability.proofs.Reaching.{reaching-marks}
use Rattle.reachability.proofs.Cycles.{cycle_sound, free_acyclic}

-- once all inputs of v are taken, v is marked exactly where it is on a cycle
pub marked_ends : {inputs : ℕ → List ℕ} {n : ℕ} (v i : ℕ) (marks : List Bool) → Marks inputs (take i (inputs v)) (is_marked marks)
    → Table inputs n → length (inputs v) ≤ i → is_marked marks v ≡ on_cycle inputs n v
unfolding on_cycle
marked_ends {inputs} v i marks are slots l =
    marks_unique (rw (take_all i (inputs v) l) at are) (reaching-marks slots (inputs v) (slots.closed v)) v

-- ---- the lowest slot on a cycle, of the graph of a block

module _ (block : List ℕ) where
  abbrev cyclic : ℕ → Bool
  cyclic = on_cycle (inputs_of (graph_of block)) (slot_count block)

  pub by_slots : lowest_on_cycle (graph_of block) ≡ lowest cyclic (slot_count block)
  unfolding lowest_on_cycle
  by_slots = rw (length-slots block) refl

  -- there is no cycle
  pub lowest_free : Closed block → has_cycle (graph_of block) ≡ false → slot_count block ≡ lowest_on_cycle (graph_of block)
  lowest_free closed f = sym (by_slots ∙ lowest_none cyclic (slot_count block) (λ k l. fails (λ t.
      free_acyclic (graph_of block) (slots_table closed) f k (cycle_sound (table closed) k t))))
