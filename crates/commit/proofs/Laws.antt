-- A record in two parts, and a block that holds a table up to the end of one record more.
-- Assumes nothing.
use mathlib.Core.Path.{◌≡◌, refl, sym, ap, ap₂, ◌∙◌}
use mathlib.Core.List.{List, [], ◌++◌}
use Prim.Native.Nat.{ℕ, ◌+◌, ◌*◌, ◌<◌, ◌≤◌}
use native.Mathlib.Nat.{add_assoc}
use native.Mathlib.Omega.{arith}
use lib.ListN.{length, get_or, take, drop, length-drop}
use lib.Seq.{length-take-le, take_all, get_or-take, get_or-drop, drop-drop, take-add, ext_get_or}
use Rattle.definitions.specs.Fields.{byte_at, Bytes, u32_at, u32_bytes}
use Rattle.definitions.specs.Graph.{header_bytes, slot_bytes, tail_offset, tail_bytes, record_at}
use Rattle.laws.proofs.Parts.{put_part, length_part, part_more}
use Rattle.encoding.proofs.Pieces.{in_pieces}
use Rattle.encoding.proofs.Numbers.{u32_bytes_lem}
use Rattle.graph_records.specs.Records.{fields_at, slot_at}
use Rattle.graph_slots.specs.Written.{SlotWritten}
use Rattle.graph_slots.proofs.Laws.{written-length, next-slot}
use Rattle.commit.specs.Tables.{Committed}

-- a record is its fields and its tail
pub whole_record : (table : List ℕ) (at : ℕ) → fields_at table at ++ take tail_bytes (drop (at + tail_offset) table) ≡ slot_at table at
unfolding slot_at fields_at
whole_record table at =
    ap (λ (t : List ℕ). take tail_offset (drop at table) ++ take tail_bytes t) (sym (drop-drop tail_offset at table))
    ∙ sym (take-add tail_offset tail_bytes (drop at table))

-- ---- the header, and one record more

pub written-header : (graph table bytes : List ℕ) → length graph ≡ length table → header_bytes ≤ length table
    → bytes ≡ take header_bytes table → Committed (record_at 0) (put_part 0 header_bytes graph bytes) table
written-header graph table bytes size l same =
    let long : length bytes ≡ header_bytes = ap length same ∙ length-take-le header_bytes table l in
    record {
      size = length_part 0 header_bytes graph bytes (omega arith) long (omega arith) ∙ size;
      front = part_more 0 header_bytes graph bytes (omega arith) long [] (omega arith) refl ∙ same;
    }

module _ (graph table : List ℕ) (k : ℕ) (before : Committed (record_at k) graph table) where
  pub kept_slot : slot_at graph (record_at k) ≡ slot_at table (record_at k) → Committed (record_at (k + 1)) graph table
  kept_slot same = record {
    size = before.size;
    front = next-slot k graph ∙ ap₂ ◌++◌ before.front same ∙ sym (next-slot k table);
  }

  pub written-slot : {after bytes : List ℕ} → SlotWritten k bytes graph after → record_at (k + 1) ≤ length table → length bytes ≡ slot_bytes
      → bytes ≡ slot_at table (record_at k) → Committed (record_at (k + 1)) after table
  written-slot written l size same = record {
    size = written-length written (omega (arith, before.size)) size ∙ before.size;
    front = written.front ∙ ap₂ ◌++◌ before.front same ∙ sym (next-slot k table);
  }

-- all of them
pub committed_all : (n : ℕ) (graph table : List ℕ) → Committed n graph table → length table ≤ n → graph ≡ table
committed_all n graph table done l =
    sym (take_all n graph (omega (arith, done.size))) ∙ done.front ∙ take_all n table l
