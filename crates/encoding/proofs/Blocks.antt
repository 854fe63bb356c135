-- A block that is made of a graph, of any version and with any counts, stands for that graph: what is read from it is the graph. One of
-- version 2 is sound where the graph is and the counts are true.
-- Assumes nothing.
use mathlib.Core.Path.{◌≡◌, sym, ap, fun_ext, ◌∙◌}
use mathlib.Core.Bool.{true, false, not, ◌||◌}
use mathlib.Core.List.{List}
use mathlib.Core.Logic.{⊎_elim}
use Prim.Native.Nat.{ℕ, ◌+◌, ◌^◌, ◌<◌, ◌≤◌}
use native.Mathlib.Omega.{arith}
use borrow.Author.Tests.{leb-true, ltb-true, ltb-false}
use lib.Dec.{eqb, ltb, leb}
use lib.ListN.{length, get_or, take, drop, get_or-eq_default}
use lib.Seq.{take_at}
use Rattle.definitions.specs.Fields.{byte_at, signed}
use Rattle.definitions.specs.Operators.{kind_empty, kind_proj, shape_fits}
use Rattle.definitions.specs.Paths.{Acyclic}
use Rattle.definitions.specs.Graph.{header_bytes, slot_bytes, tail_offset, tail_bytes, slot_limit, output_limit, input_limit, attribute_limit, unused_place, graph_version, slot_count, record_at, stored_count, Slot, Graph, empty_slot, slot_from, graph_of, slot_of, inputs_of, is_vertex, true_count, reads_of, count_tail, record_block, records_block, header_block, block_as, graph_block, at_least_one, lowest_on_cycle, has_cycle, SoundAs, SoundGraph}
use Rattle.laws.proofs.Lists.{decided, and_left, and_right}
use Rattle.laws.proofs.Members.{mem-at}
use Rattle.laws.proofs.Sums.{count-length}
use Rattle.laws.proofs.Counts.{reads-most}
use Rattle.laws.proofs.Operators.{few_inputs_lem, few_attributes_lem}
use Rattle.laws.proofs.Graph.{slot_past, vertex-inside, slot_of_lem, length-slots, length-attributes}
use Rattle.graph_fields.specs.Layout.{ReadableGraph, Closed, OutputsNamed}
use Rattle.encoding.specs.Tables.{slot_fits, Table, Holdable, Words}
use Rattle.encoding.proofs.Pieces.{at_first, tabulated, headed-length, headed-at, headed_cut}
use Rattle.encoding.proofs.Records.{length-slot, tail_held, kind_back, operator_back, attribute_count_back, inputs_back, attributes_back, record_fits_lem}
use Rattle.encoding.proofs.Tails.{length_tail, count-read_back, tail_fits}
use Rattle.encoding.proofs.Headers.{length-header, count_back, output-count_back, outputs_back, header-fits}

module _ (g : Graph) (holds : Holdable g) where
  -- an attribute is a word, and so is what stands past the last
  pub word_at : Words g → (k : ℕ) → k < length g.slots → (i : ℕ) → get_or (slot_of g k).attributes i 0 < 2 ^ 32
  word_at words k inside i =
      let xs = (slot_of g k).attributes in
      ⊎_elim (λ (t : ltb i (length xs) ≡ true).
      words k inside (get_or xs i 0) (mem-at xs i 0 (ltb-true i (length xs) t)))
      (λ (t : ltb i (length xs) ≡ false).
      omega (arith, get_or-eq_default xs 0 (ltb-false i (length xs) t)))
      (decided (ltb i (length xs)))

  module _ (version : ℕ) (counts : ℕ → ℕ) where
    abbrev made : List ℕ
    made = block_as version counts g

    abbrev header : List ℕ
    header = header_block version (length g.slots) g.outputs

    abbrev recorded : List ℕ
    recorded = records_block counts g (length g.slots)

    -- ---- where the block holds the header and the records

    pub sized : (k : ℕ) → k < length g.slots → length (record_block counts g k) ≡ slot_bytes
    sized k l = length-slot (slot_of g k) (holds.inputs k l) (holds.attributes k l) (count_tail (counts k)) (length_tail (counts k))

    length-headed : length header ≡ header_bytes
    length-headed = length-header version (length g.slots) g.outputs holds.outputs

    pub block-length : length made ≡ record_at (length g.slots)
    unfolding block_as
    block-length = headed-length header header_bytes slot_bytes (length g.slots) (record_block counts g) length-headed sized

    -- the first 24 bytes are the header's
    pub header-held : (i : ℕ) → i < header_bytes → byte_at made i ≡ get_or header i 0
    unfolding block_as
    header-held i l = at_first header recorded header_bytes i 0 length-headed l

    -- and the 48 from `record_at k` on are those of slot k's record
    pub record_held : (k : ℕ) → k < length g.slots → (i : ℕ) → i < slot_bytes
        → byte_at made (record_at k + i) ≡ get_or (record_block counts g k) i 0
    unfolding block_as
    record_held = headed-at header header_bytes slot_bytes (length g.slots) (record_block counts g) length-headed sized 0

    -- so they can be cut out
    pub record_cut : (k : ℕ) → k < length g.slots → take slot_bytes (drop (record_at k) made) ≡ record_block counts g k
    unfolding block_as
    record_cut = headed_cut header header_bytes slot_bytes (length g.slots) (record_block counts g) length-headed sized 0

    pub header_cut : take header_bytes made ≡ header
    unfolding block_as
    header_cut = take_at header recorded header_bytes length-headed

    -- ---- what is read from it

    pub block-slots : slot_count made ≡ length g.slots
    block-slots =
        count_back version (length g.slots) g.outputs holds.outputs made header-held (omega (arith, holds.slots))

    pub block-outputs : (graph_of made).outputs ≡ g.outputs
    block-outputs =
        outputs_back version (length g.slots) g.outputs holds.outputs made header-held
        holds.output_places

    module _ (k : ℕ) (inside : k < length g.slots) where
      read-from : slot_of (graph_of made) k ≡ slot_from made (record_at k)
      read-from = slot_of_lem made k (omega (arith, block-slots))

      kind_same : (slot_from made (record_at k)).kind ≡ (slot_of g k).kind
      unfolding slot_from
      kind_same =
          kind_back (slot_of g k) (holds.inputs k inside) (holds.attributes k inside) (count_tail (counts k)) made (record_at k) (record_held k inside)

      operator_same : (slot_from made (record_at k)).operator ≡ (slot_of g k).operator
      unfolding slot_from
      operator_same =
          operator_back (slot_of g k) (holds.inputs k inside) (holds.attributes k inside) (count_tail (counts k)) made (record_at k) (record_held k inside)

      inputs_same : (slot_from made (record_at k)).inputs ≡ (slot_of g k).inputs
      inputs_same =
          inputs_back (slot_of g k) (holds.inputs k inside) (holds.attributes k inside) (count_tail (counts k)) made (record_at k) (record_held k inside)
          (holds.input_places k)

      attribute_count_same : length (slot_from made (record_at k)).attributes ≡ length (slot_of g k).attributes
      attribute_count_same =
          length-attributes made (record_at k)
          ∙ attribute_count_back (slot_of g k) (holds.inputs k inside) (holds.attributes k inside) (count_tail (counts k)) made (record_at k)
          (record_held k inside)

      tail_same : (i : ℕ) → i < tail_bytes → byte_at made (record_at k + tail_offset + i) ≡ get_or (count_tail (counts k)) i 0
      tail_same =
          tail_held (slot_of g k) (holds.inputs k inside) (holds.attributes k inside) (count_tail (counts k)) made (record_at k) (record_held k inside)

      -- the count that it stores
      pub block-count : counts k < 65536 → stored_count made k ≡ counts k
      block-count = count-read_back (counts k) made (record_at k) tail_same

    -- a field of every slot, where it is the same within
    everywhere : {A : Type 0} (field : Slot → A)
        → ((k : ℕ) → k < length g.slots → field (slot_from made (record_at k)) ≡ field (slot_of g k))
        → (v : ℕ) → field (slot_of (graph_of made) v) ≡ field (slot_of g v)
    everywhere field same v =
        ⊎_elim (λ (t : ltb v (length g.slots) ≡ true).
        let inside = ltb-true v (length g.slots) t in
        ap field (read-from v inside) ∙ same v inside)
        (λ (t : ltb v (length g.slots) ≡ false).
        let past = ltb-false v (length g.slots) t in
        ap field (slot_past (graph_of made) v (omega (arith, length-slots made, block-slots)))
        ∙ sym (ap field (slot_past g v past)))
        (decided (ltb v (length g.slots)))

    -- a slot's kind, operator and inputs come back, and how many attributes it has: these need not be words
    pub block_kind : (v : ℕ) → (slot_of (graph_of made) v).kind ≡ (slot_of g v).kind
    block_kind = everywhere (λ (s : Slot). s.kind) kind_same

    pub block-operator : (v : ℕ) → (slot_of (graph_of made) v).operator ≡ (slot_of g v).operator
    block-operator = everywhere (λ (s : Slot). s.operator) operator_same

    pub block-inputs : (v : ℕ) → inputs_of (graph_of made) v ≡ inputs_of g v
    block-inputs = everywhere (λ (s : Slot). s.inputs) inputs_same

    pub block_attribute_count : (v : ℕ) → length (slot_of (graph_of made) v).attributes ≡ length (slot_of g v).attributes
    block_attribute_count = everywhere (λ (s : Slot). length s.attributes) attribute_count_same

    pub block-vertex : (v : ℕ) → is_vertex (graph_of made) v ≡ is_vertex g v
    unfolding is_vertex
    block-vertex v = ap (λ (kind : ℕ). not (eqb kind kind_empty)) (block_kind v)

    -- so the code can read the block, also of a graph that has a cycle or an attribute that is no word
    pub block_readable : ReadableGraph made
    block_readable = record {
      whole = record {
        size = rw block-slots block-length;
        slots = omega (arith, block-slots, holds.slots);
        outputs = omega (arith, output-count_back version (length g.slots) g.outputs holds.outputs made header-held, holds.outputs);
      };
      inputs = λ k l. rw (block-inputs k) (holds.inputs k (omega (arith, block-slots)));
      attributes = λ k l. rw (block_attribute_count k) (holds.attributes k (omega (arith, block-slots)));
    }

    -- the true counts are those of the graph
    pub block_true_count : (v : ℕ) → true_count (graph_of made) v ≡ true_count g v
    unfolding true_count reads_of
    block_true_count v =
        let same : inputs_of (graph_of made) ≡ inputs_of g = fun_ext block-inputs in
        let size : length (graph_of made).slots ≡ length g.slots = length-slots made ∙ block-slots in
        rw (same, size, block-outputs)

    -- and a cycle is one of both or of none
    pub block_cycle : has_cycle (graph_of made) ≡ has_cycle g
    unfolding has_cycle lowest_on_cycle
    block_cycle =
        let same : inputs_of (graph_of made) ≡ inputs_of g = fun_ext block-inputs in
        let size : length (graph_of made).slots ≡ length g.slots = length-slots made ∙ block-slots in
        rw (same, size)

    -- ---- a graph whose attributes are words comes back whole

    module _ (words : Words g) where
      attributes_same : (k : ℕ) → k < length g.slots → (slot_from made (record_at k)).attributes ≡ (slot_of g k).attributes
      attributes_same k inside =
          attributes_back (slot_of g k) (holds.inputs k inside) (holds.attributes k inside) (count_tail (counts k)) made (record_at k)
          (record_held k inside) (λ i l. word_at words k inside i)

      slot_same : (k : ℕ) → k < length g.slots → slot_from made (record_at k) ≡ slot_of g k
      slot_same k inside = λ i. record {
        kind = kind_same k inside i;
        operator = operator_same k inside i;
        inputs = inputs_same k inside i;
        attributes = attributes_same k inside i;
      }

      slots_same : (graph_of made).slots ≡ g.slots
      unfolding graph_of slot_of
      slots_same =
          tabulated (slot_count made) (λ k. slot_from made (record_at k)) g.slots empty_slot block-slots slot_same

      -- the block stands for the graph
      pub block_back : graph_of made ≡ g
      block_back = λ i. record { slots = slots_same i; outputs = block-outputs i }

-- ---- a graph that is sound, but for a cycle and for the size of its attributes

module _ (g : Graph) (table : Table g) where
  pub few_slots : length g.slots ≤ slot_limit
  few_slots =
      leb-true (length g.slots) slot_limit (and_right (leb 1 (length g.slots)) (leb (length g.slots) slot_limit) table.size)

  few_outputs_lem : length g.outputs ≤ output_limit
  few_outputs_lem =
      leb-true (length g.outputs) output_limit
      (and_right (leb 1 (length g.outputs)) (leb (length g.outputs) output_limit) table.output_count)

  pub shaped : (k : ℕ) → k < length g.slots
      → shape_fits (slot_of g k).kind (slot_of g k).operator (length (slot_of g k).inputs) (length (slot_of g k).attributes) ≡ true
  unfolding slot_fits
  shaped k l =
      let s = slot_of g k in
      and_left (shape_fits s.kind s.operator (length s.inputs) (length s.attributes))
      (not (eqb s.kind kind_proj) || at_least_one (signed (get_or s.attributes 0 0))) (table.shapes k l)

  pub inputs-fit : (k : ℕ) → k < length g.slots → length (inputs_of g k) ≤ input_limit
  inputs-fit k l =
      let s = slot_of g k in few_inputs_lem s.kind s.operator (length s.inputs) (length s.attributes) (shaped k l)

  pub attributes-fit : (k : ℕ) → k < length g.slots → length (slot_of g k).attributes ≤ attribute_limit
  attributes-fit k l =
      let s = slot_of g k in few_attributes_lem s.kind s.operator (length s.inputs) (length s.attributes) (shaped k l)

  pub input_inside : (k i : ℕ) → i < length (inputs_of g k) → get_or (inputs_of g k) i unused_place < length g.slots
  input_inside k i l =
      let v = get_or (inputs_of g k) i unused_place in vertex-inside g v (table.inputs k v (mem-at (inputs_of g k) i unused_place l))

  output-inside : (i : ℕ) → i < length g.outputs → get_or g.outputs i unused_place < length g.slots
  output-inside i l =
      let v = get_or g.outputs i unused_place in vertex-inside g v (table.outputs v (mem-at g.outputs i unused_place l))

  -- such a graph can be held, cycle or not
  pub holdable : Holdable g
  holdable = record {
    slots = few_slots;
    outputs = few_outputs_lem;
    inputs = inputs-fit;
    attributes = attributes-fit;
    input_places = λ k i l. omega (arith, input_inside k i l, few_slots);
    output_places = λ i l. omega (arith, output-inside i l, few_slots);
  }

  module _ (version : ℕ) (counts : ℕ → ℕ) where
    pub block_closed : Closed (block_as version counts g)
    block_closed = record {
      named = λ k i l m. rw (block-inputs g holdable version counts k, block-slots g holdable version counts) (input_inside k i (rw (block-inputs g holdable version counts k) at m));
    }

    pub block-outputs-named : OutputsNamed (block_as version counts g)
    block-outputs-named = record {
      named = λ i l.
          let inside : i < length g.outputs =
          omega (arith, output-count_back version (length g.slots) g.outputs few_outputs_lem (block_as version counts g) (header-held g holdable version counts)) in
          rw (block-outputs g holdable version counts, block-slots g holdable version counts) (output-inside i inside);
    }

  -- ---- and the one of version 2 is sound where the graph has no cycle

  module _ (counts : ℕ → ℕ) (words : Words g) where
    pub block-form : Acyclic (inputs_of g) → SoundAs graph_version (block_as graph_version counts g)
    block-form acyclic =
        let made = block_as graph_version counts g in
        let back = block_back g holdable graph_version counts words in
        record {
          header = header-fits graph_version (length g.slots) g.outputs few_outputs_lem made (header-held g holdable graph_version counts)
              (block-length g holdable graph_version counts) table.size table.output_count (omega arith) (omega (arith, few_slots));
          records = λ k l.
              let inside : k < length g.slots = omega (arith, block-slots g holdable graph_version counts) in
              record_fits_lem (slot_of g k) (inputs-fit k inside) (attributes-fit k inside) (count_tail (counts k)) made (record_at k)
              (record_held g holdable graph_version counts k inside) graph_version (table.shapes k inside) (word_at g holdable words k inside 0)
              (tail_fits (counts k) made (record_at k) (tail_same g holdable graph_version counts k inside));
          inputs = rw back table.inputs;
          outputs = rw back table.outputs;
          acyclic = rw back acyclic;
        }

  -- a count is a 16-bit number
  pub count_small : (k : ℕ) → true_count g k < 65536
  unfolding true_count reads_of
  count_small k =
      omega (
        arith,
        reads-most (inputs_of g) (length g.slots) k inputs-fit,
        few_slots,
        count-length k g.outputs,
        few_outputs_lem,
      )

  pub block-sound : Words g → Acyclic (inputs_of g) → SoundGraph (graph_block g)
  block-sound words acyclic = record {
    form = block-form (true_count g) words acyclic;
    counts = λ k l.
        let inside : k < length g.slots = omega (arith, block-slots g holdable graph_version (true_count g)) in
        rw (block_back g holdable graph_version (true_count g) words) (block-count g holdable graph_version (true_count g) k inside (count_small k));
  }
