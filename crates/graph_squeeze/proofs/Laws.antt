-- The block that is squeezed in place, slot by slot: what it still holds of the old table, and what is written.
-- Assumes nothing.
use mathlib.Core.Path.{◌≡◌, refl, sym, ap, ap₂, ◌∙◌}
use mathlib.Core.Bool.{true, false}
use mathlib.Core.List.{List, ◌++◌, map, Memᴰ}
use mathlib.Core.Logic.{⊎_elim}
use Prim.Native.Nat.{ℕ, ◌+◌, ◌<◌, ◌≤◌}
use native.Mathlib.Omega.{arith}
use borrow.Author.Tests.{ltb-true, ltb-false}
use lib.Dec.{ltb}
use lib.ListN.{length, get_or, take, drop, replicate, length-append, length-drop, take-append-drop, get_or-eq_default}
use lib.Seq.{get_or-drop, length-take-le, take_at, drop_at}
use Rattle.definitions.specs.Fields.{byte_at, Bytes}
use Rattle.definitions.specs.Graph.{header_bytes, slot_bytes, tail_bytes, unused_place, graph_version, slot_count, record_at, Slot, Graph, empty_slot, renamed, graph_of, slot_of, inputs_of, is_vertex, true_count, count_tail, slot_block, header_block, block_as, SoundGraph}
use Rattle.definitions.specs.Squeeze.{moved_to, squeeze}
use Rattle.laws.proofs.Lists.{decided, map_same}
use Rattle.laws.proofs.Parts.{put_part}
use Rattle.laws.proofs.Graph.{length-slots, vertex-inside}
use Rattle.laws.proofs.Filtered.{filtered_most}
use Rattle.encoding.specs.Tables.{Table}
use Rattle.encoding.proofs.Tails.{zero_tail}
use Rattle.encoding.proofs.Blocks.{few_slots, inputs-fit, attributes-fit, input_inside, word_at, sized, block-length, header_cut, record_held, record_cut, holdable}
use Rattle.encoding.proofs.Graphs.{table_of, words_of, canonical}
use Rattle.graph_records.specs.Records.{Writable, slot_at}
use Rattle.graph_slots.specs.Written.{empty_bytes, SlotWritten, Halfway}
use Rattle.graph_slots.proofs.Laws.{drop_further, halfway_write}
use Rattle.graph_moves.specs.Moving.{name_in, Moving, Renamable}
use Rattle.tidying.proofs.Squeezed.{vertex_count, comes_from, moved-count, from-vertex, from-moved, squeezed_size, squeezed_slot_lem, squeezed_empty, squeezed_table}
use Rattle.graph_squeeze.specs.Held.{Held, HeldSlot}

module _ (block : List ℕ) (sound : SoundGraph block) (bytes : Bytes block) where
  abbrev g : Graph
  g = graph_of block

  abbrev new : List ℕ
  new = block_as graph_version (λ i. 0) (squeeze g)

  table : Table g
  table = table_of block sound

  pub after_table : Table (squeeze g)
  after_table = squeezed_table g table

  -- the squeezed records behind the old header
  abbrev pub middle : List ℕ
  middle = take header_bytes block ++ drop header_bytes new

  pub new-length : length new ≡ record_at (slot_count block)
  new-length = block-length (squeeze g) (holdable (squeeze g) after_table) graph_version (λ i. 0) ∙ ap record_at (squeezed_size g ∙ length-slots block)

  old-length : length block ≡ record_at (slot_count block)
  old-length = ap length (sym (canonical block sound bytes)) ∙ block-length g (holdable g table) graph_version (true_count g) ∙ ap record_at (length-slots block)

  header-length : length (take header_bytes block) ≡ header_bytes
  header-length = length-take-le header_bytes block (omega (arith, old-length))

  pub middle-length : length middle ≡ record_at (slot_count block)
  middle-length =
      length-append (take header_bytes block) (drop header_bytes new)
      ∙ omega (arith, header-length, length-drop header_bytes new, new-length)

  middle-behind : drop header_bytes middle ≡ drop header_bytes new
  middle-behind = drop_at (take header_bytes block) (drop header_bytes new) header_bytes header-length

  middle-slot : (k : ℕ) → slot_at middle (record_at k) ≡ slot_at new (record_at k)
  unfolding slot_at
  middle-slot k = ap (take slot_bytes) (drop_further header_bytes (record_at k) middle new (omega arith) middle-behind)

  -- the header is written last
  pub headed : (header : List ℕ) → header ≡ take header_bytes new → put_part 0 header_bytes middle header ≡ new
  headed header e = ap₂ ◌++◌ e middle-behind ∙ take-append-drop header_bytes new

  -- ---- what the block still holds of the old table

  writable : (v : ℕ) → v < slot_count block → Writable (slot_of g v)
  writable v l =
      let inside : v < length g.slots = omega (arith, length-slots block) in
      record {
        few_inputs = inputs-fit g table v inside;
        few_attributes = attributes-fit g table v inside;
        small_inputs = λ i. ⊎_elim
            (λ (t : ltb i (length (inputs_of g v)) ≡ true).
            omega (arith, input_inside g table v i (ltb-true i (length (inputs_of g v)) t), few_slots g table))
            (λ (t : ltb i (length (inputs_of g v)) ≡ false).
            omega (arith, get_or-eq_default (inputs_of g v) unused_place (ltb-false i (length (inputs_of g v)) t)))
            (decided (ltb i (length (inputs_of g v))));
        words = word_at g (holdable g table) (words_of block bytes) v inside;
      }

  names : (v : ℕ) → Renamable (inputs_of g v)
  names v i l = omega (arith, input_inside g table v i l, few_slots g table)

  module _ {graph : List ℕ} (k : ℕ) (h : Halfway k graph middle block) (v : ℕ) (behind : k ≤ v) (inside : v < slot_count block) where
    byte_same : (i : ℕ) → byte_at graph (record_at v + i) ≡ byte_at block (record_at v + i)
    byte_same i =
        sym (get_or-drop (record_at v) graph i 0)
        ∙ ap (λ (xs : List ℕ). get_or xs i 0) (drop_further (record_at k) (record_at v) graph block (omega arith) h.back)
        ∙ get_or-drop (record_at v) block i 0

    still_held : Held graph v (slot_of g v)
    still_held = record {
      fits = writable v inside;
      tail = count_tail (true_count g v);
      bytes = λ i l.
          byte_same i ∙ ap (λ (b : List ℕ). byte_at b (record_at v + i)) (sym (canonical block sound bytes))
          ∙ record_held g (holdable g table) graph_version (true_count g) v (omega (arith, length-slots block)) i l;
    }

    still_slot : HeldSlot graph v
    still_slot = record { slot = slot_of g v; held = still_held; named = names v }

  -- ---- what is written

  pub squeezed_start : Halfway 0 block middle block
  squeezed_start = record {
    size = old-length ∙ sym middle-length;
    front = sym (take_at (take header_bytes block) (drop header_bytes new) header_bytes header-length);
    back = refl;
  }

  module _ (count : ℕ) (from to : List ℕ) (moving : Moving g (slot_count block) count from to) where
    name_same : (v : ℕ) → is_vertex g v ≡ true → name_in to v ≡ moved_to g v
    name_same v t = moving.each v (omega (arith, vertex-inside g v t, length-slots block))

    names_same : (xs : List ℕ) → ((v : ℕ) → Memᴰ v xs → is_vertex g v ≡ true) → map (name_in to) xs ≡ map (moved_to g) xs
    names_same xs vertices = map_same (name_in to) (moved_to g) xs (λ v m. name_same v (vertices v m))

    slot_same : (v : ℕ) → renamed (name_in to) (slot_of g v) ≡ renamed (moved_to g) (slot_of g v)
    unfolding renamed
    slot_same v =
        let s = slot_of g v in
        ap (λ (xs : List ℕ). record { kind = s.kind; operator = s.operator; inputs = xs; attributes = s.attributes })
        (names_same s.inputs (sound.form.inputs v))

    pub new-header : header_block graph_version (slot_count block) (map (name_in to) g.outputs) ≡ take header_bytes new
    unfolding squeeze
    new-header =
        ap₂ (header_block graph_version) (sym (squeezed_size g ∙ length-slots block)) (names_same g.outputs sound.form.outputs)
        ∙ sym (header_cut (squeeze g) (holdable (squeeze g) after_table) graph_version (λ i. 0))

    module _ {graph : List ℕ} (k : ℕ) (inside : k < slot_count block) (h : Halfway k graph middle block) where
      held : k < length (squeeze g).slots
      held = omega (arith, squeezed_size g, length-slots block)

      -- what is written there is what the squeezed table has there
      step : {after : List ℕ} (s : Slot) → slot_of (squeeze g) k ≡ s → SlotWritten k (slot_block (replicate tail_bytes 0) s) graph after
          → Halfway (k + 1) after middle block
      unfolding slot_at
      step s same written =
          let bytes_same : slot_at middle (record_at k) ≡ slot_block (replicate tail_bytes 0) s =
          middle-slot k ∙ record_cut (squeeze g) (holdable (squeeze g) after_table) graph_version (λ i. 0) k held ∙ ap₂ slot_block zero_tail same in
          let size : length (slot_block (replicate tail_bytes 0) s) ≡ slot_bytes =
          ap₂ (λ (tail : List ℕ) (t : Slot). length (slot_block tail t)) (sym zero_tail) (sym same)
          ∙ sized (squeeze g) (holdable (squeeze g) after_table) graph_version (λ i. 0) k held in
          halfway_write k h written (omega (arith, h.size, middle-length)) size bytes_same

      module _ (low : k < count) where
        below : k < vertex_count g
        below = omega (arith, moving.counted)

        pub source : name_in from k ≡ comes_from g k
        source = moving.listed k low

        source-inside : comes_from g k < slot_count block
        source-inside = omega (arith, vertex-inside g (comes_from g k) (from-vertex g k below), length-slots block)

        -- no vertex moves up
        source-behind : k ≤ comes_from g k
        source-behind =
            omega (
              arith,
              from-moved g k below,
              moved-count g (comes_from g k) (from-vertex g k below),
              filtered_most (is_vertex g) (comes_from g k),
            )

        pub move_ready : HeldSlot graph (name_in from k) × (k ≤ name_in from k) × (name_in from k < slot_count block)
        move_ready = rw source (still_slot k h (comes_from g k) source-behind source-inside, source-behind, source-inside)

        pub step-vertex : {after : List ℕ}
            → ((s : Slot) → Held graph (name_in from k) s → SlotWritten k (slot_block (replicate tail_bytes 0) (renamed (name_in to) s)) graph after)
            → Halfway (k + 1) after middle block
        step-vertex written =
            step (renamed (name_in to) (slot_of g (comes_from g k)))
            (squeezed_slot_lem g k below ∙ sym (slot_same (comes_from g k)))
            (written (slot_of g (comes_from g k)) (rw source (still_held k h (comes_from g k) source-behind source-inside)))

      pub step_empty : {after : List ℕ} → count ≤ k → SlotWritten k empty_bytes graph after
          → Halfway (k + 1) after middle block
      unfolding empty_bytes
      step_empty past written = step empty_slot (squeezed_empty g k (omega (arith, moving.counted))) written
