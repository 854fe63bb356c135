-- Which bytes of a record are kept: two blocks with the same slot in one place differ there in the bytes of the count alone, and not in these
-- where the counts are the same.
-- Assumes nothing.
use mathlib.Core.Path.{◌≡◌, sym, ap, ◌∙◌}
use mathlib.Core.List.{List}
use Prim.Native.Nat.{ℕ, ◌+◌, ◌<◌}
use lib.ListN.{length, get_or}
use Rattle.definitions.specs.Fields.{byte_at}
use Rattle.definitions.specs.Graph.{slot_bytes, graph_version, record_at, Slot, Graph, graph_of, slot_of, true_count, count_tail, slot_block, block_as, graph_block}
use Rattle.encoding.specs.Tables.{Table}
use Rattle.encoding.proofs.Tails.{count_apart}
use Rattle.encoding.proofs.Blocks.{inputs-fit, attributes-fit, record_held, holdable}
use Rattle.answers.specs.Written.{OutsideCount, KeepsRecord}

module _ (g new : Graph) (table : Table g) (later : Table new) (k : ℕ) (inside : k < length g.slots) (within : k < length new.slots)
    (same : slot_of new k ≡ slot_of g k) where
  module _ (old version : ℕ) (before after : ℕ → ℕ) (i : ℕ) (l : i < slot_bytes) where
    held : get_or (slot_block (count_tail (after k)) (slot_of g k)) i 0 ≡ get_or (slot_block (count_tail (before k)) (slot_of g k)) i 0
        → byte_at (block_as version after new) (record_at k + i) ≡ byte_at (block_as old before g) (record_at k + i)
    held e =
        record_held new (holdable new later) version after k within i l
        ∙ ap (λ (s : Slot). get_or (slot_block (count_tail (after k)) s) i 0) same ∙ e
        ∙ sym (record_held g (holdable g table) old before k inside i l)

    -- of any versions, and with any counts
    pub other_bytes : OutsideCount i → byte_at (block_as version after new) (record_at k + i) ≡ byte_at (block_as old before g) (record_at k + i)
    other_bytes outside =
        held (count_apart (after k) (before k) (slot_of g k) (inputs-fit g table k inside) (attributes-fit g table k inside) i l outside)

    pub all_bytes : after k ≡ before k → byte_at (block_as version after new) (record_at k + i) ≡ byte_at (block_as old before g) (record_at k + i)
    all_bytes e = held (ap (λ (n : ℕ). get_or (slot_block (count_tail n) (slot_of g k)) i 0) e)

-- so a record is kept where the slot is
pub record_kept : (graph graph_after : List ℕ) (new : Graph) → Table (graph_of graph) → Table new
    → graph_block (graph_of graph) ≡ graph → graph_after ≡ graph_block new → graph_of graph_after ≡ new
    → (k : ℕ) → k < length (graph_of graph).slots → k < length new.slots → slot_of new k ≡ slot_of (graph_of graph) k
    → KeepsRecord graph graph_after k
record_kept graph graph_after new table later old left stands k inside within same =
    let g = graph_of graph in
    record {
      others = λ i l outside. after i ∙ other_bytes g new table later k inside within same graph_version graph_version (true_count g) (true_count new) i l outside ∙ before i;
      all = λ e i l.
          after i ∙ all_bytes g new table later k inside within same graph_version graph_version (true_count g) (true_count new) i l
          (ap (λ (t : Graph). true_count t k) (sym stands) ∙ e)
          ∙ before i;
    }
  where
    after : (i : ℕ) → byte_at graph_after (record_at k + i) ≡ byte_at (graph_block new) (record_at k + i)
    after i = ap (λ (block : List ℕ). byte_at block (record_at k + i)) left

    before : (i : ℕ) → byte_at (graph_block (graph_of graph)) (record_at k + i) ≡ byte_at graph (record_at k + i)
    before i = ap (λ (block : List ℕ). byte_at block (record_at k + i)) old
