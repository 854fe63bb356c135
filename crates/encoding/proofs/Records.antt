-- The record of a slot: its 48 bytes, part by part; what a block holds where it holds them; and that a record that follows its kind
-- is the record of its slot. A record's tail is any: what it holds is said in `Tails`.
-- Assumes nothing.
use mathlib.Core.Path.{◌≡◌, refl, ap, ◌∙◌}
use mathlib.Core.Bool.{true, not, ◌||◌, and-false}
use mathlib.Core.List.{List, [], ◌∷◌, ◌++◌}
use Prim.Native.Nat.{ℕ, ◌+◌, ◌*◌, ◌^◌, ◌<◌, ◌≤◌}
use native.Mathlib.Nat.{add-zero, add_assoc}
use native.Mathlib.Omega.{arith}
use lib.Dec.{eqb}
use lib.ListN.{length, get_or}
use Rattle.definitions.specs.Lists.{padded, concat_map}
use Rattle.definitions.specs.Fields.{byte_at, Bytes, u16_at, u32_at, filled, signed, u16_bytes, u32_bytes}
use Rattle.definitions.specs.Operators.{kind_proj, shape_fits}
use Rattle.definitions.specs.Graph.{slot_bytes, inputs_offset, attributes_offset, tail_offset, tail_bytes, input_limit, attribute_limit, unused_place, Slot, slot_from, slot_block, at_least_one, zeros_offset, record_fits}
use Rattle.laws.proofs.Lists.{needed, and_left, and_right}
use Rattle.laws.proofs.Graph.{length-inputs, input_of, length-attributes, attribute_of_lem, record_shape}
use Rattle.laws.proofs.Operators.{few_inputs_lem, few_attributes_lem}
use Rattle.encoding.specs.Tables.{slot_fits}
use Rattle.encoding.proofs.Pieces.{in_parts, below_four, at_first, at_second, length_two, tabulated}
use Rattle.encoding.proofs.Numbers.{length_u16, length_u32, u16_back, u32_back, u16_bytes_lem, u32_bytes_lem, u16_unused, u32_unused}
use Rattle.encoding.proofs.Places.{length-places, place-held, others-filled, places-held}

-- ---- the parts of a slot's record

abbrev pub front : Slot → List ℕ
front s = s.kind ∷ s.operator ∷ length s.inputs ∷ length s.attributes ∷ []

abbrev pub input_places : Slot → List ℕ
input_places s = concat_map u16_bytes (padded input_limit unused_place s.inputs)

abbrev pub attribute_places : Slot → List ℕ
attribute_places s = concat_map u32_bytes (padded attribute_limit 0 s.attributes)

pub slot_parts : (tail : List ℕ) (s : Slot) → slot_block tail s ≡ (front s ++ input_places s ++ attribute_places s) ++ tail
unfolding slot_block
slot_parts tail s = refl

module _ (s : Slot) (few_inputs : length s.inputs ≤ input_limit) (few_attributes : length s.attributes ≤ attribute_limit) where
  upto_inputs : length (front s ++ input_places s) ≡ attributes_offset
  upto_inputs = length_two (front s) (input_places s) inputs_offset (2 * input_limit) refl
      (length-places u16_bytes 2 input_limit unused_place s.inputs length_u16 few_inputs)

  pub upto_attributes : length (front s ++ input_places s ++ attribute_places s) ≡ tail_offset
  upto_attributes = length_two (front s ++ input_places s) (attribute_places s) attributes_offset (4 * attribute_limit) upto_inputs
      (length-places u32_bytes 4 attribute_limit 0 s.attributes length_u32 few_attributes)

  module _ (tail : List ℕ) where
    pub length-slot : length tail ≡ tail_bytes → length (slot_block tail s) ≡ slot_bytes
    unfolding slot_block
    length-slot = length_two (front s ++ input_places s ++ attribute_places s) tail tail_offset tail_bytes upto_attributes

    -- ---- and where they stand

    input_byte : (i : ℕ) → i < 2 * input_limit → get_or (slot_block tail s) (inputs_offset + i) 0 ≡ get_or (input_places s) i 0
    unfolding slot_block
    input_byte i l =
        at_first (front s ++ input_places s ++ attribute_places s) tail tail_offset (inputs_offset + i) 0 upto_attributes (omega arith)
        ∙ at_first (front s ++ input_places s) (attribute_places s) attributes_offset (inputs_offset + i) 0 upto_inputs (omega arith)
        ∙ at_second (front s) (input_places s) inputs_offset i 0 refl

    attribute_byte : (i : ℕ) → i < 4 * attribute_limit → get_or (slot_block tail s) (attributes_offset + i) 0 ≡ get_or (attribute_places s) i 0
    unfolding slot_block
    attribute_byte i l =
        at_first (front s ++ input_places s ++ attribute_places s) tail tail_offset (attributes_offset + i) 0 upto_attributes (omega arith)
        ∙ at_second (front s ++ input_places s) (attribute_places s) attributes_offset i 0 upto_inputs

    tail_byte : (i : ℕ) → get_or (slot_block tail s) (tail_offset + i) 0 ≡ get_or tail i 0
    unfolding slot_block
    tail_byte i = at_second (front s ++ input_places s ++ attribute_places s) tail tail_offset i 0 upto_attributes

    -- ---- a block that holds the record at `at`

    module _ (block : List ℕ) (at : ℕ) (held : (i : ℕ) → i < slot_bytes → byte_at block (at + i) ≡ get_or (slot_block tail s) i 0) where
      pub kind_back : byte_at block at ≡ s.kind
      unfolding slot_block
      kind_back = rw add-zero at (held 0 (omega arith))

      pub operator_back : byte_at block (at + 1) ≡ s.operator
      unfolding slot_block
      operator_back = held 1 (omega arith)

      pub input_count_back : byte_at block (at + 2) ≡ length s.inputs
      unfolding slot_block
      input_count_back = held 2 (omega arith)

      pub attribute_count_back : byte_at block (at + 3) ≡ length s.attributes
      unfolding slot_block
      attribute_count_back = held 3 (omega arith)

      inputs-held : (i : ℕ) → i < 2 * input_limit → byte_at block (at + inputs_offset + i) ≡ get_or (input_places s) i 0
      inputs-held i l = rw add_assoc (held (inputs_offset + i) (omega arith)) ∙ input_byte i l

      attributes-held : (i : ℕ) → i < 4 * attribute_limit → byte_at block (at + attributes_offset + i) ≡ get_or (attribute_places s) i 0
      attributes-held i l = rw add_assoc (held (attributes_offset + i) (omega arith)) ∙ attribute_byte i l

      pub tail_held : (i : ℕ) → i < tail_bytes → byte_at block (at + tail_offset + i) ≡ get_or tail i 0
      tail_held i l = rw add_assoc (held (tail_offset + i) (omega arith)) ∙ tail_byte i

      -- a place holds its number, where the number fits
      pub input_back : (k : ℕ) → k < input_limit → get_or s.inputs k unused_place < 65536
          → u16_at block (at + inputs_offset + 2 * k) ≡ get_or s.inputs k unused_place
      input_back k l =
          u16_back block (at + inputs_offset + 2 * k) (get_or s.inputs k unused_place)
          (place-held u16_bytes 2 input_limit unused_place s.inputs length_u16 few_inputs block (at + inputs_offset) inputs-held k l)

      pub attribute_back : (k : ℕ) → k < attribute_limit → get_or s.attributes k 0 < 2 ^ 32
          → u32_at block (at + attributes_offset + 4 * k) ≡ get_or s.attributes k 0
      attribute_back k l =
          u32_back block (at + attributes_offset + 4 * k) (get_or s.attributes k 0)
          (place-held u32_bytes 4 attribute_limit 0 s.attributes length_u32 few_attributes block (at + attributes_offset) attributes-held k l)

      pub inputs_back : ((k : ℕ) → k < length s.inputs → get_or s.inputs k unused_place < 65536)
          → (slot_from block at).inputs ≡ s.inputs
      unfolding slot_from
      inputs_back small =
          tabulated (byte_at block (at + 2)) (λ k. u16_at block (at + inputs_offset + 2 * k)) s.inputs unused_place input_count_back
          (λ k l. input_back k (omega arith) (small k l))

      pub attributes_back : ((k : ℕ) → k < length s.attributes → get_or s.attributes k 0 < 2 ^ 32)
          → (slot_from block at).attributes ≡ s.attributes
      unfolding slot_from
      attributes_back small =
          tabulated (byte_at block (at + 3)) (λ k. u32_at block (at + attributes_offset + 4 * k)) s.attributes 0 attribute_count_back
          (λ k l. attribute_back k (omega arith) (small k l))

      -- ---- the record follows the slot's kind where the slot does and the tail fits

      unused_inputs_lem : filled block (at + inputs_offset + 2 * length s.inputs) (at + attributes_offset) 255 ≡ true
      unused_inputs_lem =
          others-filled u16_bytes 2 input_limit unused_place s.inputs length_u16 few_inputs block (at + inputs_offset) (at + attributes_offset) 255
          (omega arith) u16_unused (omega arith) inputs-held

      unused_attributes : filled block (at + attributes_offset + 4 * length s.attributes) (at + tail_offset) 0 ≡ true
      unused_attributes =
          others-filled u32_bytes 4 attribute_limit 0 s.attributes length_u32 few_attributes block (at + attributes_offset) (at + tail_offset) 0
          (omega arith) u32_unused (omega arith) attributes-held

      pub record_fits_lem : (version : ℕ) → slot_fits s ≡ true → get_or s.attributes 0 0 < 2 ^ 32
          → filled block (at + zeros_offset version) (at + slot_bytes) 0 ≡ true → record_fits version block at ≡ true
      unfolding slot_fits record_fits
      record_fits_lem version fits small zeros =
          let shape = shape_fits s.kind s.operator (length s.inputs) (length s.attributes) in
          let index = not (eqb s.kind kind_proj) || at_least_one (signed (get_or s.attributes 0 0)) in
          let same : u32_at block (at + attributes_offset) ≡ get_or s.attributes 0 0 =
          rw add-zero at (attribute_back 0 (omega arith) small) in
          simp (
            kind_back,
            operator_back,
            input_count_back,
            attribute_count_back,
            same,
            unused_inputs_lem,
            unused_attributes,
            zeros,
            and_left shape index fits,
            and_right shape index fits,
          )

-- ---- a record that follows its kind is its slot's

module _ (version : ℕ) (block : List ℕ) (at : ℕ) (fits : record_fits version block at ≡ true) where
  pub few_inputs-read : length (slot_from block at).inputs ≤ input_limit
  few_inputs-read =
      rw (length-inputs block at)
      (few_inputs_lem (byte_at block at) (byte_at block (at + 1)) (byte_at block (at + 2)) (byte_at block (at + 3))
      (record_shape block version at fits))

  pub few_attributes-read : length (slot_from block at).attributes ≤ attribute_limit
  few_attributes-read =
      rw (length-attributes block at)
      (few_attributes_lem (byte_at block at) (byte_at block (at + 1)) (byte_at block (at + 2)) (byte_at block (at + 3))
      (record_shape block version at fits))

  unused_inputs-read : filled block (at + inputs_offset + 2 * length (slot_from block at).inputs) (at + attributes_offset) 255 ≡ true
  unfolding record_fits
  unused_inputs-read =
      rw (length-inputs block at)
      (needed (filled block (at + inputs_offset + 2 * byte_at block (at + 2)) (at + attributes_offset) 255) fits (λ f. simp (f, and-false)))

  unused_attributes-read : filled block (at + attributes_offset + 4 * length (slot_from block at).attributes) (at + tail_offset) 0 ≡ true
  unfolding record_fits
  unused_attributes-read =
      rw (length-attributes block at)
      (needed (filled block (at + attributes_offset + 4 * byte_at block (at + 3)) (at + tail_offset) 0) fits (λ f. simp (f, and-false)))

  pub zeros-read : filled block (at + zeros_offset version) (at + slot_bytes) 0 ≡ true
  unfolding record_fits
  zeros-read = needed (filled block (at + zeros_offset version) (at + slot_bytes) 0) fits (λ f. simp (f, and-false))

  front_read : (tail : List ℕ) (i : ℕ) → i < inputs_offset → get_or (slot_block tail (slot_from block at)) i 0 ≡ byte_at block (at + i)
  unfolding slot_block slot_from
  front_read tail =
      below_four (λ i. get_or (slot_block tail (slot_from block at)) i 0 ≡ byte_at block (at + i))
      (rw add-zero) refl (length-inputs block at) (length-attributes block at)

  module _ (bytes : Bytes block) where
    inputs_read : (i : ℕ) → i < 2 * input_limit → get_or (input_places (slot_from block at)) i 0 ≡ byte_at block (at + inputs_offset + i)
    inputs_read =
        places-held u16_bytes 2 input_limit unused_place (slot_from block at).inputs length_u16 few_inputs-read
        block (at + inputs_offset) (at + attributes_offset) 255 (omega arith) u16_unused (omega arith)
        (λ k l i m.
        ap (λ (x : ℕ). get_or (u16_bytes x) i 0) (input_of block at k unused_place (rw (length-inputs block at) at l))
        ∙ u16_bytes_lem block bytes (at + inputs_offset + 2 * k) i m)
        unused_inputs-read

    attributes-read : (i : ℕ) → i < 4 * attribute_limit → get_or (attribute_places (slot_from block at)) i 0 ≡ byte_at block (at + attributes_offset + i)
    attributes-read =
        places-held u32_bytes 4 attribute_limit 0 (slot_from block at).attributes length_u32 few_attributes-read
        block (at + attributes_offset) (at + tail_offset) 0 (omega arith) u32_unused (omega arith)
        (λ k l i m.
        ap (λ (x : ℕ). get_or (u32_bytes x) i 0) (attribute_of_lem block at k 0 (rw (length-attributes block at) at l))
        ∙ u32_bytes_lem block bytes (at + attributes_offset + 4 * k) i m)
        unused_attributes-read

    pub record_read : (tail : List ℕ) → ((i : ℕ) → i < tail_bytes → get_or tail i 0 ≡ byte_at block (at + tail_offset + i))
        → (i : ℕ) → i < slot_bytes → get_or (slot_block tail (slot_from block at)) i 0 ≡ byte_at block (at + i)
    record_read tail same =
        let s = slot_from block at in
        let Same : ℕ → Type 0 = λ i. get_or (slot_block tail s) i 0 ≡ byte_at block (at + i) in
        in_parts Same tail_offset tail_bytes
        (in_parts Same attributes_offset (4 * attribute_limit)
        (in_parts Same inputs_offset (2 * input_limit) (front_read tail)
        (λ i l. input_byte s few_inputs-read few_attributes-read tail i l ∙ rw add_assoc at (inputs_read i l)))
        (λ i l. attribute_byte s few_inputs-read few_attributes-read tail i l ∙ rw add_assoc at (attributes-read i l)))
        (λ i l. tail_byte s few_inputs-read few_attributes-read tail i ∙ rw add_assoc at (same i l))
