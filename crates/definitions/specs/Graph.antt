-- 'The graph block': its fields, the graph for which a block stands, and the faults of a block. Request 5/13 has made version 2 of it, which
-- every operation takes but the import; that takes version 1.
-- Assumes nothing.
use Rattle.std.specs.Prelude.{◌≡◌, Bool, true, false, cond, not, ◌&&◌, ◌||◌, ℕ, ◌+◌, ◌-◌, ◌*◌, ◌<◌, eqb, ltb, ℤ, pos, negsuc, length, get_or, replicate}
use mathlib.Core.List.{List, [], ◌∷◌, ◌++◌, map, Memᴰ}
use Rattle.definitions.specs.Lists.{within, lowest, total, tabulate, all, padded, concat_map, count}
use Rattle.definitions.specs.Fields.{byte_at, u16_at, u32_at, filled, mark_fits, signed, u16_bytes, u32_bytes}
use Rattle.definitions.specs.Operators.{kind_empty, kind_variable, kind_proj, shape_fits}
use Rattle.definitions.specs.Paths.{Reads, Acyclic, on_cycle}
use Rattle.definitions.specs.Reply.{Reply, bad_graph_header, bad_graph_record, bad_graph_name, graph_has_cycle, bad_graph_count, Fault, fault, flag, place, judged}

-- ---- sizes

abbrev pub header_bytes : ℕ
header_bytes = 24

abbrev pub slot_bytes : ℕ
slot_bytes = 48

-- where the output places of the header start, and where they end
abbrev pub outputs_offset : ℕ
outputs_offset = 10

abbrev pub outputs_end : ℕ
outputs_end = 18

-- where the input places of a record start, its attribute places, and its tail: the bytes behind them
abbrev pub inputs_offset : ℕ
inputs_offset = 4

abbrev pub attributes_offset : ℕ
attributes_offset = 16

abbrev pub tail_offset : ℕ
tail_offset = 40

abbrev pub tail_bytes : ℕ
tail_bytes = slot_bytes - tail_offset

-- a tail starts with the record's count, a 16-bit number; the rest of it is zero
abbrev pub count_offset : ℕ
count_offset = tail_offset

abbrev pub count_bytes : ℕ
count_bytes = 2

abbrev pub slot_limit : ℕ
slot_limit = 512

abbrev pub output_limit : ℕ
output_limit = 4

abbrev pub input_limit : ℕ
input_limit = 6

abbrev pub attribute_limit : ℕ
attribute_limit = 6

-- what an unused output or input place holds
abbrev pub unused_place : ℕ
unused_place = 65535

-- `T`
abbrev pub graph_letter : ℕ
graph_letter = 84

abbrev pub version_offset : ℕ
version_offset = 4

abbrev pub graph_version : ℕ
graph_version = 2

-- what the import takes
abbrev pub import_version : ℕ
import_version = 1

-- ---- fields

abbrev pub slot_count : List ℕ → ℕ
slot_count block = u16_at block 6

abbrev pub output_count : List ℕ → ℕ
output_count block = u16_at block 8

-- where the record of slot k starts
abbrev pub record_at : ℕ → ℕ
record_at k = header_bytes + slot_bytes * k

-- the count that slot k's record stores
abbrev pub stored_count : List ℕ → ℕ → ℕ
stored_count block k = u16_at block (record_at k + count_offset)

-- ---- the graph of a block

-- a slot's attributes are 32-bit words; expressions read them as signed numbers
pub record Slot : Type 0 where
  pub kind : ℕ
  pub operator : ℕ
  pub inputs : List ℕ
  pub attributes : List ℕ

pub record Graph : Type 0 where
  pub slots : List Slot
  pub outputs : List ℕ

unfoldable pub empty_slot : Slot
empty_slot = record { kind = kind_empty; operator = 0; inputs = []; attributes = [] }

-- the slot with what each of its inputs names passed through `to`; nothing else changes
unfoldable pub renamed : (ℕ → ℕ) → Slot → Slot
renamed to s = record { kind = s.kind; operator = s.operator; inputs = map to s.inputs; attributes = s.attributes }

-- the slot whose record starts at `at`
unfoldable pub slot_from : List ℕ → ℕ → Slot
slot_from block at = record {
  kind = byte_at block at;
  operator = byte_at block (at + 1);
  inputs = tabulate (byte_at block (at + 2)) (λ i. u16_at block (at + inputs_offset + 2 * i));
  attributes = tabulate (byte_at block (at + 3)) (λ i. u32_at block (at + attributes_offset + 4 * i));
}

unfoldable pub graph_of : List ℕ → Graph
graph_of block = record {
  slots = tabulate (slot_count block) (λ k. slot_from block (record_at k));
  outputs = tabulate (output_count block) (λ i. u16_at block (outputs_offset + 2 * i));
}

unfoldable pub slot_of : Graph → ℕ → Slot
slot_of g v = get_or g.slots v empty_slot

abbrev pub inputs_of : Graph → ℕ → List ℕ
inputs_of g v = (slot_of g v).inputs

-- a vertex is a slot that is not Empty
unfoldable pub is_vertex : Graph → ℕ → Bool
is_vertex g v = not (eqb (slot_of g v).kind kind_empty)

unfoldable pub is_variable : Graph → ℕ → Bool
is_variable g v = eqb (slot_of g v).kind kind_variable

-- how many input places name slot v
unfoldable pub reads_of : Graph → ℕ → ℕ
reads_of g v = total (λ w. count v (inputs_of g w)) (length g.slots)

-- "the number of input places and graph outputs that name this slot": places are counted, and not readers
unfoldable pub true_count : Graph → ℕ → ℕ
true_count g v = reads_of g v + count v g.outputs

-- ---- the block of a graph

-- the tail of a record that stores this count
unfoldable pub count_tail : ℕ → List ℕ
count_tail n = u16_bytes n ++ replicate (tail_bytes - count_bytes) 0

-- the record of a slot, with the tail that it is given
unfoldable pub slot_block : List ℕ → Slot → List ℕ
slot_block tail s =
    (s.kind ∷ s.operator ∷ length s.inputs ∷ length s.attributes ∷ [])
    ++ concat_map u16_bytes (padded input_limit unused_place s.inputs)
    ++ concat_map u32_bytes (padded attribute_limit 0 s.attributes)
    ++ tail

-- the record of slot k, and those of the first n slots, with these counts
abbrev pub record_block : (ℕ → ℕ) → Graph → ℕ → List ℕ
record_block counts g k = slot_block (count_tail (counts k)) (slot_of g k)

abbrev pub records_block : (ℕ → ℕ) → Graph → ℕ → List ℕ
records_block counts g n = concat_map (record_block counts g) (tabulate n (λ k. k))

-- the header for n slots and these outputs
unfoldable pub header_block : ℕ → ℕ → List ℕ → List ℕ
header_block version n outputs =
    (76 ∷ 71 ∷ graph_letter ∷ 0 ∷ [])
    ++ u16_bytes version
    ++ u16_bytes n
    ++ u16_bytes (length outputs)
    ++ concat_map u16_bytes (padded output_limit unused_place outputs)
    ++ replicate (header_bytes - outputs_end) 0

-- a block that stands for a graph, with this version and these counts
unfoldable pub block_as : ℕ → (ℕ → ℕ) → Graph → List ℕ
block_as version counts g =
    header_block version (length g.slots) g.outputs ++ records_block counts g (length g.slots)

-- the block of a graph has the true counts
abbrev pub graph_block : Graph → List ℕ
graph_block g = block_as graph_version (true_count g) g

-- ---- faults, by kind, in the papers' order

-- 1 to 4 outputs; the unused places hold 65535
unfoldable pub output_places_fit : List ℕ → Bool
output_places_fit block =
    within 1 (output_count block) output_limit && filled block (outputs_offset + 2 * output_count block) outputs_end 255

-- length and header, with the unused output places
unfoldable pub header_fits : ℕ → List ℕ → Bool
header_fits version block =
    eqb (length block) (record_at (slot_count block))
    && mark_fits block graph_letter
    && eqb (u16_at block version_offset) version
    && within 1 (slot_count block) slot_limit
    && output_places_fit block
    && filled block outputs_end header_bytes 0

-- an index of a Proj is at least 1
unfoldable pub at_least_one : ℤ → Bool
at_least_one (pos n) = ltb 0 n
at_least_one (negsuc n) = false

-- where a record's last zero bytes start: version 1 has no count
unfoldable pub zeros_offset : ℕ → ℕ
zeros_offset version = cond (eqb version import_version) count_offset (count_offset + count_bytes)

-- the record that starts at `at` follows its kind: the tables, the unused places, a Proj's index, and zero bytes at its end
unfoldable pub record_fits : ℕ → List ℕ → ℕ → Bool
record_fits version block at =
    shape_fits (byte_at block at) (byte_at block (at + 1)) (byte_at block (at + 2)) (byte_at block (at + 3))
    && filled block (at + inputs_offset + 2 * byte_at block (at + 2)) (at + attributes_offset) 255
    && filled block (at + attributes_offset + 4 * byte_at block (at + 3)) (at + tail_offset) 0
    && (not (eqb (byte_at block at) kind_proj) || at_least_one (signed (u32_at block (at + attributes_offset))))
    && filled block (at + zeros_offset version) (at + slot_bytes) 0

unfoldable pub bad_record : ℕ → List ℕ → ℕ → Bool
bad_record version block k = not (record_fits version block (record_at k))

-- slot k has an input that names no vertex
unfoldable pub bad_inputs : Graph → ℕ → Bool
bad_inputs g k = not (all (is_vertex g) (inputs_of g k))

-- output place i names no vertex
unfoldable pub bad_output : Graph → ℕ → Bool
bad_output g i = not (is_vertex g (get_or g.outputs i unused_place))

-- the lowest slot on a cycle, or the number of slots where there is none
unfoldable pub lowest_on_cycle : Graph → ℕ
lowest_on_cycle g = lowest (on_cycle (inputs_of g) (length g.slots)) (length g.slots)

unfoldable pub has_cycle : Graph → Bool
has_cycle g = ltb (lowest_on_cycle g) (length g.slots)

-- slot k stores a wrong count
unfoldable pub bad_count : List ℕ → ℕ → Bool
bad_count block k = not (eqb (stored_count block k) (true_count (graph_of block) k))

-- header, records and names; an output is looked at after all inputs
unfoldable pub name_faults : ℕ → List ℕ → List Fault
name_faults version block =
    fault bad_graph_header (flag (not (header_fits version block)))
    ∷ fault bad_graph_record (place (slot_count block) (lowest (bad_record version block) (slot_count block)))
    ∷ fault bad_graph_name (place (slot_count block) (lowest (bad_inputs (graph_of block)) (slot_count block)))
    ∷ fault bad_graph_name (place (output_count block) (lowest (bad_output (graph_of block)) (output_count block)))
    ∷ []

unfoldable pub cycle_faults : List ℕ → List Fault
cycle_faults block = fault graph_has_cycle (place (slot_count block) (lowest_on_cycle (graph_of block))) ∷ []

-- the kinds of fault that a block of either version can have
unfoldable pub faults_as : ℕ → List ℕ → List Fault
faults_as version block = name_faults version block ++ cycle_faults block

-- "a wrong count is 24, place the lowest such slot, after 23"
unfoldable pub count_faults : List ℕ → List Fault
count_faults block = fault bad_graph_count (place (slot_count block) (lowest (bad_count block) (slot_count block))) ∷ []

-- what judging a block by the rules of a version gives, counts aside
unfoldable pub reply_as : ℕ → List ℕ → Reply
reply_as version block = judged (faults_as version block)

-- what checking a graph gives
unfoldable pub graph_reply : List ℕ → Reply
graph_reply block = judged (faults_as graph_version block ++ count_faults block)

-- ---- a sound graph; it is proved that the reply is done exactly for these

-- Sound by the rules of a version, counts aside. The first two parts are the tests above, which say by bytes what the paper says of the
-- header and of a record. The other three are the paper's sentences and no tests: "Each input and each output names a slot that isn't
-- Empty." and "No vertex has a path of one or more edges to itself." What the code computes for these is proved to be the same.
pub record SoundAs (version : ℕ) (block : List ℕ) : Type 0 where
  pub header : header_fits version block ≡ true
  pub records : (k : ℕ) → k < slot_count block → record_fits version block (record_at k) ≡ true
  pub inputs : (k v : ℕ) → Reads (inputs_of (graph_of block)) k v → is_vertex (graph_of block) v ≡ true
  pub outputs : (v : ℕ) → Memᴰ v (graph_of block).outputs → is_vertex (graph_of block) v ≡ true
  pub acyclic : Acyclic (inputs_of (graph_of block))

-- every slot, an Empty one too, stores its true count
abbrev pub TrueCounts : List ℕ → Type 0
TrueCounts block = (k : ℕ) → k < slot_count block → stored_count block k ≡ true_count (graph_of block) k

pub record SoundGraph (block : List ℕ) : Type 0 where
  pub form : SoundAs graph_version block
  pub counts : TrueCounts block
