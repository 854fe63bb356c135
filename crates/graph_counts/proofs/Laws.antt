-- A block whose counts are stored anew: how it is written record by record, and that one which is made of a graph becomes the graph's block.
-- Assumes nothing.
use mathlib.Core.Path.{◌≡◌, refl, sym, ap, ap₂, ◌∙◌}
use mathlib.Core.List.{List, ◌++◌, append_assoc}
use Prim.Native.Nat.{ℕ, ◌+◌, ◌-◌, ◌<◌, ◌≤◌}
use native.Mathlib.Omega.{arith}
use lib.ListN.{length, take, drop, replicate, length-append, length-drop}
use lib.Seq.{length-take-le, take_at, drop_at, take-add, take-take, drop-drop}
use Rattle.definitions.specs.Lists.{tabulate, concat_map}
use Rattle.definitions.specs.Fields.{u16_bytes}
use Rattle.definitions.specs.Graph.{header_bytes, slot_bytes, tail_bytes, count_offset, count_bytes, input_limit, attribute_limit, slot_count, record_at, Slot, Graph, graph_of, slot_of, true_count, count_tail, slot_block, record_block, block_as}
use Rattle.laws.proofs.Parts.{put_part, part_more, part_rest}
use Rattle.laws.proofs.Pieces.{pieces_same}
use Rattle.graph_fields.specs.Layout.{WholeGraph}
use Rattle.encoding.specs.Tables.{Table}
use Rattle.encoding.proofs.Pieces.{headed-length, headed_cut}
use Rattle.encoding.proofs.Numbers.{length_u16}
use Rattle.encoding.proofs.Records.{front, input_places, attribute_places, slot_parts, upto_attributes}
use Rattle.encoding.proofs.Blocks.{inputs-fit, attributes-fit, record_cut, header_cut, block-slots, block_true_count, block_readable, block_closed, block-outputs-named, holdable}
use Rattle.graph_records.specs.Records.{slot_at}
use Rattle.graph_slots.specs.Written.{SlotWritten, Halfway}
use Rattle.graph_slots.proofs.Laws.{drop_further}
use Rattle.graph_uses.specs.Countable.{CountableGraph}
use Rattle.writing.specs.Numbers.{with_u16}
use Rattle.graph_counts.specs.Recounted.{with_count, recounted}

abbrev zero_bytes : ℕ
zero_bytes = tail_bytes - count_bytes

-- ---- one count, written into a block

module _ (k n : ℕ) (graph : List ℕ) (inside : record_at (k + 1) ≤ length graph) where
  abbrev at : ℕ
  at = record_at k + count_offset

  abbrev end : ℕ
  end = at + count_bytes

  abbrev written : List ℕ
  written = with_u16 at n graph

  -- a part that is lent on and comes back
  as_part : written ≡ put_part at end graph (u16_bytes n)
  unfolding with_u16
  as_part =
      let e : at + (end - at) ≡ end = omega arith in
      ap (λ (rest : List ℕ). take at graph ++ (u16_bytes n ++ rest)) (sym (drop-drop (end - at) at graph ∙ ap (λ (m : ℕ). drop m graph) e))

  count-size : length (u16_bytes n) ≡ end - at
  count-size = length_u16 n ∙ omega arith

  rest : drop end written ≡ drop end graph
  rest = ap (drop end) as_part ∙ part_rest at end graph (u16_bytes n) (omega arith) count-size (omega arith)

  -- the record's bytes before the count, and behind it
  fields : take at graph ≡ take (record_at k) graph ++ take count_offset (slot_at graph (record_at k))
  unfolding slot_at
  fields =
      take-add (record_at k) count_offset graph
      ∙ ap (λ (t : List ℕ). take (record_at k) graph ++ t) (sym (take-take count_offset slot_bytes (drop (record_at k) graph) (omega arith)))

  zeros : take zero_bytes (drop end graph) ≡ drop (count_offset + count_bytes) (slot_at graph (record_at k))
  unfolding slot_at
  zeros =
      let slot = drop (record_at k) graph in
      let long : length (take (count_offset + count_bytes) slot) ≡ count_offset + count_bytes =
      length-take-le (count_offset + count_bytes) slot (simp length-drop (omega arith)) in
      let e : record_at k + (count_offset + count_bytes) ≡ end = omega arith in
      ap (λ (m : ℕ). take zero_bytes (drop m graph)) (sym e)
      ∙ ap (take zero_bytes) (sym (drop-drop (count_offset + count_bytes) (record_at k) graph))
      ∙ sym (ap (drop (count_offset + count_bytes)) (take-add (count_offset + count_bytes) zero_bytes slot)
      ∙ drop_at (take (count_offset + count_bytes) slot) (take zero_bytes (drop (count_offset + count_bytes) slot)) (count_offset + count_bytes) long)

  pub count-written : SlotWritten k (with_count n (slot_at graph (record_at k))) graph written
  unfolding with_u16
  count-written =
      let slot = slot_at graph (record_at k) in
      let next : record_at (k + 1) ≡ end + zero_bytes = omega arith in
      let more = ap (take end) as_part ∙ part_more at end graph (u16_bytes n) (omega arith) count-size (take at graph) (omega arith) refl in
      record {
        front = ap (λ (m : ℕ). take m written) next ∙ take-add end zero_bytes written
            ∙ ap₂ ◌++◌ (more ∙ ap (λ (t : List ℕ). t ++ u16_bytes n) fields) (ap (take zero_bytes) rest ∙ zeros)
            ∙ append_assoc (take (record_at k) graph ++ take count_offset slot) (u16_bytes n) (drop (count_offset + count_bytes) slot)
            ∙ append_assoc (take (record_at k) graph) (take count_offset slot) (u16_bytes n ++ drop (count_offset + count_bytes) slot);
        back = drop_further end (record_at (k + 1)) written graph (omega arith) rest;
      }

-- ---- the block, written record by record

module _ (block : List ℕ) (whole : WholeGraph block) where
  abbrev pub record_with : ℕ → List ℕ
  record_with k = with_count (true_count (graph_of block) k) (slot_at block (record_at k))

  pub with_length : (n k : ℕ) → k < slot_count block → length (with_count n (slot_at block (record_at k))) ≡ slot_bytes
  unfolding with_u16 slot_at
  with_length n k l =
      let slot = take slot_bytes (drop (record_at k) block) in
      let long : length slot ≡ slot_bytes = length-take-le slot_bytes (drop (record_at k) block) (simp length-drop (omega (arith, whole.size))) in
      length-append (take count_offset slot) (u16_bytes n ++ drop (count_offset + count_bytes) slot)
      ∙ omega (
        arith,
        length-take-le count_offset slot (omega arith),
        length-append (u16_bytes n) (drop (count_offset + count_bytes) slot),
        length_u16 n,
        length-drop (count_offset + count_bytes) slot,
      )

  header-length : length (take header_bytes block) ≡ header_bytes
  header-length = length-take-le header_bytes block (omega (arith, whole.size))

  sized : (k : ℕ) → k < slot_count block → length (record_with k) ≡ slot_bytes
  sized k = with_length (true_count (graph_of block) k) k

  pub recounted-length : length (recounted block) ≡ record_at (slot_count block)
  unfolding recounted
  recounted-length = headed-length (take header_bytes block) header_bytes slot_bytes (slot_count block) record_with header-length sized

  pub recounted-slot : (k : ℕ) → k < slot_count block → slot_at (recounted block) (record_at k) ≡ record_with k
  unfolding recounted slot_at
  recounted-slot = headed_cut (take header_bytes block) header_bytes slot_bytes (slot_count block) record_with header-length sized 0

  pub recounted-start : Halfway 0 block (recounted block) block
  unfolding recounted
  recounted-start = record {
    size = whole.size ∙ sym recounted-length;
    front = sym (take_at (take header_bytes block) (concat_map record_with (tabulate (slot_count block) (λ k. k))) header_bytes header-length);
    back = refl;
  }

-- ---- a block that is made of a graph

-- a record that stores one count, with another in its place
with_count_lem : (n old : ℕ) (s : Slot) → length s.inputs ≤ input_limit → length s.attributes ≤ attribute_limit
    → with_count n (slot_block (count_tail old) s) ≡ slot_block (count_tail n) s
unfolding with_u16 count_tail
with_count_lem n old s few_inputs few_attributes =
    let fields = front s ++ input_places s ++ attribute_places s in
    let zeros : List ℕ = replicate zero_bytes 0 in
    let size = upto_attributes s few_inputs few_attributes in
    let parts = slot_parts (count_tail old) s in
    let longer : length (fields ++ u16_bytes old) ≡ count_offset + count_bytes = length-append fields (u16_bytes old) ∙ omega (arith, size, length_u16 old) in
    ap₂ (λ (a b : List ℕ). a ++ (u16_bytes n ++ b))
    (ap (take count_offset) parts ∙ take_at fields (count_tail old) count_offset size)
    (ap (drop (count_offset + count_bytes)) (parts ∙ sym (append_assoc fields (u16_bytes old) zeros))
    ∙ drop_at (fields ++ u16_bytes old) zeros (count_offset + count_bytes) longer)
    ∙ sym (slot_parts (count_tail n) s)

module _ (version : ℕ) (counts : ℕ → ℕ) (g : Graph) (table : Table g) where
  abbrev made : List ℕ
  made = block_as version counts g

  pub made_countable : CountableGraph made
  made_countable = record {
    readable = block_readable g (holdable g table) version counts;
    closed = block_closed g table version counts;
    outputs = block-outputs-named g table version counts;
  }

  each : (k : ℕ) → k < length g.slots → with_count (true_count (graph_of made) k) (slot_at made (record_at k)) ≡ record_block (true_count g) g k
  unfolding slot_at
  each k l =
      ap₂ with_count (block_true_count g (holdable g table) version counts k) (record_cut g (holdable g table) version counts k l)
      ∙ with_count_lem (true_count g k) (counts k) (slot_of g k) (inputs-fit g table k l) (attributes-fit g table k l)

  pub made-recounted : recounted made ≡ block_as version (true_count g) g
  unfolding recounted block_as
  made-recounted =
      ap₂ ◌++◌ (header_cut g (holdable g table) version counts)
      (ap (λ (n : ℕ). concat_map (λ k. with_count (true_count (graph_of made) k) (slot_at made (record_at k))) (tabulate n (λ k. k)))
      (block-slots g (holdable g table) version counts)
      ∙ pieces_same (λ k. with_count (true_count (graph_of made) k) (slot_at made (record_at k))) (record_block (true_count g) g) (length g.slots) each)
