-- A record that is read and written again: the bytes of its fields are those that it was read from.
-- Assumes nothing.
use mathlib.Core.Path.{◌≡◌, sym, ap, ◌∙◌}
use mathlib.Core.List.{List, [], ◌∷◌, ◌++◌}
use Prim.Native.Nat.{ℕ, ◌+◌, ◌*◌, ◌<◌, ◌≤◌}
use native.Mathlib.Nat.{add-zero, add_assoc}
use native.Mathlib.Omega.{arith}
use lib.ListN.{length, get_or, take, drop, length-drop}
use lib.Seq.{length-take-le, get_or-take, get_or-drop, drop-drop, take-add, ext_get_or}
use Rattle.definitions.specs.Lists.{tabulate, concat_map}
use Rattle.definitions.specs.Fields.{byte_at, Bytes, u16_at, u32_at, u16_bytes, u32_bytes}
use Rattle.definitions.specs.Graph.{slot_bytes, inputs_offset, attributes_offset, input_limit, attribute_limit}
use Rattle.encoding.proofs.Pieces.{in_pieces, below_four, length-numbered, numbered-at}
use Rattle.encoding.proofs.Numbers.{length_u16, length_u32, u16_bytes_lem, u32_bytes_lem}
use Rattle.graph_arrays.specs.Arrays.{inputs_at, attributes_at}
use Rattle.graph_records.specs.declared.Record.{Record}
use Rattle.graph_records.specs.Records.{fields_of, fields_at, ReadFrom}

-- ---- bytes of a block, by index

module _ (block : List ℕ) (at : ℕ) where
  length_run : (n : ℕ) → at + n ≤ length block → length (take n (drop at block)) ≡ n
  length_run n l = length-take-le n (drop at block) (simp length-drop (omega arith))

  run_at : (n i : ℕ) → i < n → get_or (take n (drop at block)) i 0 ≡ byte_at block (at + i)
  run_at n i l = get_or-take n (drop at block) i 0 l ∙ get_or-drop at block i 0

  first_four : at + 4 ≤ length block
      → byte_at block at ∷ byte_at block (at + 1) ∷ byte_at block (at + 2) ∷ byte_at block (at + 3) ∷ [] ≡ take 4 (drop at block)
  first_four l =
      let xs = byte_at block at ∷ byte_at block (at + 1) ∷ byte_at block (at + 2) ∷ byte_at block (at + 3) ∷ [] in
      let run = take 4 (drop at block) in
      ext_get_or 0 xs run (sym (length_run 4 l))
      (below_four (λ i. get_or xs i 0 ≡ get_or run i 0)
      (sym (run_at 4 0 (omega arith) ∙ ap (byte_at block) (add-zero at)))
      (sym (run_at 4 1 (omega arith)))
      (sym (run_at 4 2 (omega arith)))
      (sym (run_at 4 3 (omega arith))))

  -- n numbers that are read one after the other, each from as many bytes as it is written in
  numbers_back : (bytes_of : ℕ → List ℕ) (size n : ℕ) (f : ℕ → ℕ) → ((x : ℕ) → length (bytes_of x) ≡ size) → 0 < size
      → at + size * n ≤ length block
      → ((k i : ℕ) → i < size → get_or (bytes_of (f k)) i 0 ≡ byte_at block (at + size * k + i))
      → concat_map bytes_of (tabulate n f) ≡ take (size * n) (drop at block)
  numbers_back bytes_of size n f sized pos l same =
      let xs = concat_map bytes_of (tabulate n f) in
      let run = take (size * n) (drop at block) in
      let long : length xs ≡ size * n = length-numbered bytes_of size n f (λ k m. sized (f k)) in
      let every : (i : ℕ) → i < size * n → get_or xs i 0 ≡ byte_at block (at + i) =
      in_pieces (λ i. get_or xs i 0 ≡ byte_at block (at + i)) size n pos
      (λ k i h m.
      numbered-at bytes_of size n f (λ j p. sized (f j)) k i 0 h m ∙ same k i m ∙ ap (byte_at block) (add_assoc at (size * k) i)) in
      ext_get_or 0 xs run (long ∙ sym (length_run (size * n) l))
      (λ i m.
      let inside : i < size * n = omega arith in
      every i inside ∙ sym (run_at (size * n) i inside))

-- ---- the record

joined : {a b c x y z : List ℕ} → a ≡ x → b ≡ y → c ≡ z → a ++ b ++ c ≡ x ++ y ++ z
joined e f g = rw (e, f, g)

module _ (block : List ℕ) (bytes : Bytes block) (at : ℕ) (whole : at + slot_bytes ≤ length block) where
  inputs_back : concat_map u16_bytes (inputs_at block at) ≡ take (2 * input_limit) (drop (at + inputs_offset) block)
  unfolding inputs_at
  inputs_back =
      numbers_back block (at + inputs_offset) u16_bytes 2 input_limit (λ i. u16_at block (at + inputs_offset + 2 * i)) length_u16 (omega arith) (omega arith)
      (λ k. u16_bytes_lem block bytes (at + inputs_offset + 2 * k))

  attributes_back : concat_map u32_bytes (attributes_at block at) ≡ take (4 * attribute_limit) (drop (at + attributes_offset) block)
  unfolding attributes_at
  attributes_back =
      numbers_back block (at + attributes_offset) u32_bytes 4 attribute_limit (λ i. u32_at block (at + attributes_offset + 4 * i)) length_u32 (omega arith) (omega arith)
      (λ k. u32_bytes_lem block bytes (at + attributes_offset + 4 * k))

  -- the fields, one after the other
  in_fields : fields_at block at
      ≡ take inputs_offset (drop at block) ++ take (2 * input_limit) (drop (at + inputs_offset) block)
      ++ take (4 * attribute_limit) (drop (at + attributes_offset) block)
  unfolding fields_at
  in_fields =
      take-add attributes_offset (4 * attribute_limit) (drop at block)
      ∙ rw (take-add inputs_offset (2 * input_limit) (drop at block), drop-drop inputs_offset at block, drop-drop attributes_offset at block)

  pub record_back : (r : Record) → ReadFrom block at r → fields_of r ≡ fields_at block at
  unfolding fields_of
  record_back r read =
      rw (read.kind, read.operator, read.input_count, read.attribute_count, read.inputs, read.attributes)
      (joined (first_four block at (omega arith)) inputs_back attributes_back ∙ sym in_fields)
