-- The tail of a record: its count, and zero bytes.
-- Assumes nothing.
use mathlib.Core.Path.{◌≡◌, refl, sym, ◌∙◌}
use mathlib.Core.Bool.{Bool, true, false, cond}
use mathlib.Core.List.{List, ◌++◌}
use mathlib.Core.Logic.{◌⊎◌, ⊎_elim}
use Prim.Native.Nat.{ℕ, ◌+◌, ◌-◌, ◌<◌, ◌≤◌}
use native.Mathlib.Omega.{arith}
use lib.Dec.{eqb}
use lib.ListN.{length, get_or, replicate, get_or-replicate}
use Rattle.definitions.specs.Fields.{byte_at, Bytes, u16_at, filled, u16_bytes}
use Rattle.definitions.specs.Graph.{slot_bytes, tail_offset, tail_bytes, count_offset, count_bytes, input_limit, attribute_limit, graph_version, import_version, Slot, count_tail, slot_block, zeros_offset, record_fits}
use Rattle.encoding.proofs.Pieces.{in_parts, at_first, at_second}
use Rattle.encoding.proofs.Numbers.{length_u16, u16_back, u16_bytes_lem, filled_at, filled_every}
use Rattle.encoding.proofs.Records.{front, input_places, attribute_places, slot_parts, upto_attributes, zeros-read}

abbrev zero_bytes : ℕ
zero_bytes = tail_bytes - count_bytes

-- the zero bytes start behind the count, or with it
zeros-behind : (version : ℕ) → zeros_offset version ≤ count_offset + count_bytes
unfolding zeros_offset
zeros-behind version = by (eqb version import_version)
  where
    by : (b : Bool) → cond b count_offset (count_offset + count_bytes) ≤ count_offset + count_bytes
    by true = omega arith
    by false = omega arith

-- the tail of no count
pub zero_tail : count_tail 0 ≡ replicate tail_bytes 0
unfolding count_tail u16_bytes
zero_tail = refl

module _ (n : ℕ) where
  pub length_tail : length (count_tail n) ≡ tail_bytes
  unfolding count_tail u16_bytes
  length_tail = refl

  count_byte : (i : ℕ) → i < count_bytes → get_or (count_tail n) i 0 ≡ get_or (u16_bytes n) i 0
  unfolding count_tail
  count_byte i l = at_first (u16_bytes n) (replicate zero_bytes 0) count_bytes i 0 (length_u16 n) l

  zero_byte : (i : ℕ) → i < zero_bytes → get_or (count_tail n) (count_bytes + i) 0 ≡ 0
  unfolding count_tail
  zero_byte i l = at_second (u16_bytes n) (replicate zero_bytes 0) count_bytes i 0 (length_u16 n) ∙ get_or-replicate zero_bytes i 0 0 l

  -- ---- a block that holds the tail of a record

  module _ (block : List ℕ) (at : ℕ) (held : (i : ℕ) → i < tail_bytes → byte_at block (at + tail_offset + i) ≡ get_or (count_tail n) i 0) where
    -- the count is read back
    pub count-read_back : n < 65536 → u16_at block (at + count_offset) ≡ n
    count-read_back small =
        u16_back block (at + count_offset) n (λ i l. held i (omega arith) ∙ count_byte i l) small

    -- and the record's test of its end holds
    pub tail_fits : filled block (at + zeros_offset graph_version) (at + slot_bytes) 0 ≡ true
    unfolding zeros_offset
    tail_fits =
        filled_every block (at + (tail_offset + count_bytes)) (at + slot_bytes) 0
        (λ i l.
        let inside : i < zero_bytes = omega arith in
        let e : at + (tail_offset + count_bytes) + i ≡ at + tail_offset + (count_bytes + i) = omega arith in
        rw e (held (count_bytes + i) (omega arith) ∙ zero_byte i inside))

-- ---- two records of one slot differ in the two bytes of the count alone

pub count_apart : (one other : ℕ) (s : Slot) → length s.inputs ≤ input_limit → length s.attributes ≤ attribute_limit
    → (i : ℕ) → i < slot_bytes → (i < count_offset) ⊎ (count_offset + count_bytes ≤ i)
    → get_or (slot_block (count_tail one) s) i 0 ≡ get_or (slot_block (count_tail other) s) i 0
count_apart one other s few_inputs few_attributes i l outside =
    rw (slot_parts (count_tail one) s, slot_parts (count_tail other) s)
    (⊎_elim
    (λ (low : i < count_offset).
    at_first fields (count_tail one) tail_offset i 0 size low ∙ sym (at_first fields (count_tail other) tail_offset i 0 size low))
    (λ (high : count_offset + count_bytes ≤ i).
    let e : tail_offset + (count_bytes + (i - 42)) ≡ i = omega arith in
    rw e at (behind one (i - 42) (omega arith) ∙ sym (behind other (i - 42) (omega arith))))
    outside)
  where
    fields : List ℕ
    fields = front s ++ input_places s ++ attribute_places s

    size : length fields ≡ tail_offset
    size = upto_attributes s few_inputs few_attributes

    behind : (n j : ℕ) → j < zero_bytes → get_or (fields ++ count_tail n) (tail_offset + (count_bytes + j)) 0 ≡ 0
    behind n j m = at_second fields (count_tail n) tail_offset (count_bytes + j) 0 size ∙ zero_byte n j m

-- ---- a record that follows its kind holds the tail of the count that it stores

module _ (version : ℕ) (block : List ℕ) (at : ℕ) (fits : record_fits version block at ≡ true) where
  zero_read : (i : ℕ) → i < zero_bytes → byte_at block (at + tail_offset + (count_bytes + i)) ≡ 0
  zero_read i l =
      let from = zeros_offset version in
      let behind = zeros-behind version in
      let e : at + tail_offset + (count_bytes + i) ≡ at + from + (count_offset + count_bytes - from + i) = omega arith in
      rw e (filled_at block (at + from) (at + slot_bytes) 0 (zeros-read version block at fits) (count_offset + count_bytes - from + i) (omega arith))

  pub tail_read : Bytes block → (i : ℕ) → i < tail_bytes
      → get_or (count_tail (u16_at block (at + count_offset))) i 0 ≡ byte_at block (at + tail_offset + i)
  tail_read bytes =
      let n = u16_at block (at + count_offset) in
      in_parts (λ i. get_or (count_tail n) i 0 ≡ byte_at block (at + tail_offset + i)) count_bytes zero_bytes
      (λ i l. count_byte n i l ∙ u16_bytes_lem block bytes (at + count_offset) i l)
      (λ i l. zero_byte n i l ∙ sym (zero_read i l))
