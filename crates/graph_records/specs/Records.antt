-- The bytes that a record is written as, the slot for which a record stands, and what is read of a record.
-- Assumes nothing.
use Rattle.std.specs.Prelude.{◌≡◌, List, [], ◌∷◌, ◌++◌, ℕ, ◌+◌, ◌^◌, ◌<◌, ◌≤◌, length, get_or, take, drop}
use Rattle.definitions.specs.Lists.{padded, concat_map}
use Rattle.definitions.specs.Fields.{byte_at, u16_bytes, u32_bytes}
use Rattle.definitions.specs.Graph.{slot_bytes, tail_offset, input_limit, attribute_limit, unused_place, Slot}
use Rattle.graph_arrays.specs.Arrays.{inputs_at, attributes_at}
use Rattle.graph_records.specs.declared.Record.{Record}

-- the bytes of a record's fields: all but the tail
unfoldable pub fields_of : Record → List ℕ
fields_of r =
    (r.kind ∷ r.operator ∷ r.n ∷ r.m ∷ [])
    ++ concat_map u16_bytes r.inputs
    ++ concat_map u32_bytes r.attributes

-- the bytes of a record, with the tail that it is given
abbrev pub record_bytes : List ℕ → Record → List ℕ
record_bytes tail r = fields_of r ++ tail

-- the record holds the slot: its fields, and what stands in the places that it leaves unused
pub record Stands (r : Record) (s : Slot) : Type 0 where
  pub kind : r.kind ≡ s.kind
  pub operator : r.operator ≡ s.operator
  pub input_count : r.n ≡ length s.inputs
  pub attribute_count : r.m ≡ length s.attributes
  pub inputs : r.inputs ≡ padded input_limit unused_place s.inputs
  pub attributes : r.attributes ≡ padded attribute_limit 0 s.attributes

-- a slot whose record can be written: few places are used, and each number fits in its place
pub record Writable (s : Slot) : Type 0 where
  pub few_inputs : length s.inputs ≤ input_limit
  pub few_attributes : length s.attributes ≤ attribute_limit
  pub small_inputs : (i : ℕ) → get_or s.inputs i unused_place < 65536
  pub words : (i : ℕ) → get_or s.attributes i 0 < 2 ^ 32

-- what stands in the record that starts at `at`: the bytes of its fields
unfoldable pub fields_at : List ℕ → ℕ → List ℕ
fields_at block at = take tail_offset (drop at block)

-- and all its 48 bytes
unfoldable pub slot_at : List ℕ → ℕ → List ℕ
slot_at block at = take slot_bytes (drop at block)

-- the record has, field by field, what stands in the block from `at` on
pub record ReadFrom (block : List ℕ) (at : ℕ) (r : Record) : Type 0 where
  pub kind : r.kind ≡ byte_at block at
  pub operator : r.operator ≡ byte_at block (at + 1)
  pub input_count : r.n ≡ byte_at block (at + 2)
  pub attribute_count : r.m ≡ byte_at block (at + 3)
  pub inputs : r.inputs ≡ inputs_at block at
  pub attributes : r.attributes ≡ attributes_at block at
