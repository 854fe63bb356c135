-- The header in front of the records is the block of the sheet's graph, with counts 0.
-- Assumes nothing.
use mathlib.Core.Path.{◌≡◌, sym, ap, ap₂, ◌∙◌}
use mathlib.Core.List.{List, ◌++◌, map}
use Prim.Native.Nat.{ℕ, ◌+◌, ◌*◌, ◌≤◌}
use native.Mathlib.Omega.{arith}
use lib.ListN.{length, take, drop}
use lib.Seq.{take-append-add, take-add, drop_at, length-take-le}
use Rattle.definitions.specs.Lists.{padded, tabulate, concat_map}
use Rattle.definitions.specs.Fields.{word_of}
use Rattle.definitions.specs.Graph.{header_bytes, slot_bytes, output_limit, unused_place, graph_version, record_at, Slot, slot_of, slot_block, records_block, header_block, block_as}
use Rattle.definitions.specs.Sheet.{Sheet}
use Rattle.definitions.specs.Listing.{slot_in, graph_in}
use Rattle.encoding.proofs.Tails.{zero_tail}
use Rattle.listing.proofs.Back.{size_back, slot_back}
use Rattle.new_header.specs.Headers.{header_with}
use Rattle.new_header.proofs.Laws.{header_bytes_lem}
use Rattle.listing_slots.specs.Rows.{row, rows, HasRows}
use Rattle.listing_slots.proofs.Laws.{rows_same}

-- a table with another header
pub headed : (slots : ℕ → Slot) (n : ℕ) (header table : List ℕ) → length header ≡ header_bytes → record_at n ≤ length table → HasRows slots n table
    → take (record_at n) (header ++ drop header_bytes table) ≡ header ++ rows slots n
headed slots n header table long inside h =
    let at : record_at n ≡ length header + slot_bytes * n = omega (arith, long) in
    let behind : drop header_bytes (take (record_at n) table) ≡ take (slot_bytes * n) (drop header_bytes table) =
    ap (drop header_bytes) (take-add header_bytes (slot_bytes * n) table)
    ∙ drop_at (take header_bytes table) (take (slot_bytes * n) (drop header_bytes table)) header_bytes (length-take-le header_bytes table (omega arith)) in
    ap (λ (k : ℕ). take k (header ++ drop header_bytes table)) at
    ∙ take-append-add header (drop header_bytes table) (slot_bytes * n)
    ∙ ap (λ (rest : List ℕ). header ++ rest) (sym behind ∙ h)

-- the records of a sheet's graph
module _ (s : Sheet) where
  sheet-rows : rows (slot_in s.lines) s.size ≡ records_block (λ k. 0) (graph_in s) s.size
  unfolding rows row
  sheet-rows =
      rows_same (slot_in s.lines) (slot_of (graph_in s)) s.size (λ k l. sym (slot_back s k (omega arith) l))
      ∙ ap (λ (tail : List ℕ). concat_map (λ k. slot_block tail (slot_of (graph_in s) k)) (tabulate s.size (λ k. k))) (sym zero_tail)

  pub sheet-block : (count : ℕ) (places : List ℕ) → count ≡ length (map word_of s.outputs)
      → places ≡ padded output_limit unused_place (map word_of s.outputs)
      → header_with s.size count places ++ rows (slot_in s.lines) s.size ≡ block_as graph_version (λ k. 0) (graph_in s)
  unfolding block_as graph_in
  sheet-block count places counted same =
      ap₂ ◌++◌
      (ap₂ (header_with s.size) counted same ∙ header_bytes_lem s.size (map word_of s.outputs)
      ∙ ap (λ (n : ℕ). header_block graph_version n (map word_of s.outputs)) (sym (size_back s)))
      (sheet-rows ∙ ap (records_block (λ k. 0) (graph_in s)) (sym (size_back s)))
