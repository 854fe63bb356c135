-- The graph of a sound block: its tables are a sound graph's, its attributes are words, and the block is made of it. So a sound graph has
-- one block.
-- Assumes nothing.
use mathlib.Core.Path.{◌≡◌, refl, sym, ap, ◌∙◌}
use mathlib.Core.Bool.{true, false, and-false}
use mathlib.Core.List.{List, ◌++◌, Memᴰ}
use mathlib.Core.Logic.{⊎_elim}
use Prim.Native.Nat.{ℕ, ◌+◌, ◌*◌, ◌^◌, ◌<◌}
use native.Mathlib.Omega.{arith}
use borrow.Author.Tests.{eqb-true}
use lib.Dec.{eqb}
use lib.ListN.{length, get_or, length-map}
use lib.Seq.{ext_get_or}
use Rattle.definitions.specs.Fields.{byte_at, Bytes, u32_at, signed}
use Rattle.definitions.specs.Operators.{kind_proj, row_of, kinds, shape_fits}
use Rattle.definitions.specs.Graph.{header_bytes, slot_bytes, attributes_offset, graph_version, slot_count, output_count, record_at, stored_count, Slot, Graph, empty_slot, renamed, slot_from, graph_of, slot_of, true_count, count_tail, slot_block, record_block, header_block, block_as, graph_block, at_least_one, record_fits, SoundAs, SoundGraph}
use Rattle.laws.proofs.Lists.{decided, needed}
use Rattle.laws.proofs.Members.{tabulate_mem}
use Rattle.laws.proofs.Pieces.{pieces_same}
use Rattle.laws.proofs.Operators.{row-attributes}
use Rattle.laws.proofs.Graph.{slot_of_lem, length-slots, length-outputs, length-inputs, length-attributes, attribute_of_lem, header-size, slots-within, outputs-within, record_shape}
use Rattle.encoding.specs.Tables.{slot_fits, Table, Words}
use Rattle.encoding.proofs.Pieces.{in_parts, in_pieces}
use Rattle.encoding.proofs.Numbers.{u32_small}
use Rattle.encoding.proofs.Records.{record_read}
use Rattle.encoding.proofs.Tails.{tail_read}
use Rattle.encoding.proofs.Headers.{header_read}
use Rattle.encoding.proofs.Blocks.{block-length, header-held, record_held, holdable}

-- ---- a slot follows its kind where its counts do and the index of a Proj is at least 1

-- a Proj has one attribute
proj_attribute : (operator n m : ℕ) → shape_fits kind_proj operator n m ≡ true → m ≡ 1
unfolding row_of kinds
proj_attribute operator n m fits = row-attributes kind_proj operator n m fits refl

-- so its index is there to be looked at
pub follows : (s : Slot) → shape_fits s.kind s.operator (length s.inputs) (length s.attributes) ≡ true
    → (s.kind ≡ kind_proj → 0 < length s.attributes → at_least_one (signed (get_or s.attributes 0 0)) ≡ true) → slot_fits s ≡ true
unfolding slot_fits
follows s fits index =
    ⊎_elim (λ (t : eqb s.kind kind_proj ≡ true).
    let proj = eqb-true s.kind kind_proj t in
    let count = proj_attribute s.operator (length s.inputs) (length s.attributes) (rw proj at fits) in
    simp (fits, t, index proj (omega arith)))
    (λ (t : eqb s.kind kind_proj ≡ false). simp (fits, t))
    (decided (eqb s.kind kind_proj))

-- the Empty slot does, and new names for what a slot reads change nothing in it
pub empty_fits : slot_fits empty_slot ≡ true
unfolding slot_fits empty_slot shape_fits row_of kinds
empty_fits = refl

pub renamed-fits : (to : ℕ → ℕ) (s : Slot) → slot_fits s ≡ true → slot_fits (renamed to s) ≡ true
unfolding renamed slot_fits
renamed-fits to s fits = rw (length-map s.inputs to) fits

-- a record that follows its kind gives such a slot
module _ (version : ℕ) (block : List ℕ) (at : ℕ) (fits : record_fits version block at ≡ true) where
  index_read : byte_at block at ≡ kind_proj → at_least_one (signed (u32_at block (at + attributes_offset))) ≡ true
  unfolding record_fits
  index_read proj = needed (at_least_one (signed (u32_at block (at + attributes_offset)))) fits (λ f. simp (proj, f, and-false))

  slot_read : slot_fits (slot_from block at) ≡ true
  unfolding slot_from
  slot_read =
      follows (slot_from block at)
      (rw (length-inputs block at, length-attributes block at) (record_shape block version at fits))
      (λ proj l.
      let first : at + attributes_offset + 4 * 0 ≡ at + attributes_offset = omega arith in
      rw (attribute_of_lem block at 0 0 (rw (length-attributes block at) at l), first) (index_read proj))

pub table_as : (version : ℕ) (block : List ℕ) → SoundAs version block → Table (graph_of block)
table_as version block sound = record {
  size = rw (length-slots block) (slots-within block version sound.header);
  output_count = rw (length-outputs block) (outputs-within block version sound.header);
  shapes = λ k l.
      let inside : k < slot_count block = omega (arith, length-slots block) in
      rw (slot_of_lem block k inside) (slot_read version block (record_at k) (sound.records k inside));
  inputs = sound.inputs;
  outputs = sound.outputs;
}

pub table_of : (block : List ℕ) → SoundGraph block → Table (graph_of block)
table_of block sound = table_as graph_version block sound.form

-- ---- attributes are read from four bytes

word_read : (block : List ℕ) → Bytes block → (at w : ℕ) → Memᴰ w (slot_from block at).attributes → w < 2 ^ 32
unfolding slot_from
word_read block bytes at w m =
    let place = tabulate_mem (byte_at block (at + 3)) (λ i. u32_at block (at + attributes_offset + 4 * i)) m in
    omega (arith, place.2, u32_small block bytes (at + attributes_offset + 4 * place.0))

pub words_of : (block : List ℕ) → Bytes block → Words (graph_of block)
words_of block bytes k l w m =
    word_read block bytes (record_at k) w (rw (slot_of_lem block k (omega (arith, length-slots block))) at m)

-- ---- a sound block of either version is made of its graph and of the counts that it stores

module _ (version : ℕ) (block : List ℕ) (sound : SoundAs version block) (bytes : Bytes block) where
  abbrev made : List ℕ
  made = block_as version (stored_count block) (graph_of block)

  table : Table (graph_of block)
  table = table_as version block sound

  header_same : (i : ℕ) → i < header_bytes → byte_at made i ≡ byte_at block i
  header_same i l =
      header-held (graph_of block) (holdable (graph_of block) table) version (stored_count block) i l
      ∙ ap (λ (n : ℕ). get_or (header_block version n (graph_of block).outputs) i 0) (length-slots block)
      ∙ header_read version block sound.header bytes i l

  record_same : (k i : ℕ) → k < slot_count block → i < slot_bytes
      → byte_at made (header_bytes + (slot_bytes * k + i)) ≡ byte_at block (header_bytes + (slot_bytes * k + i))
  record_same k i l m =
      let e : header_bytes + (slot_bytes * k + i) ≡ record_at k + i = omega arith in
      let fits = sound.records k l in
      let tail = count_tail (stored_count block k) in
      rw e (record_held (graph_of block) (holdable (graph_of block) table) version (stored_count block) k (omega (arith, length-slots block)) i m
      ∙ ap (λ (s : Slot). get_or (slot_block tail s) i 0) (slot_of_lem block k l)
      ∙ record_read version block (record_at k) fits bytes tail (tail_read version block (record_at k) fits bytes) i m)

  pub canonical_as : made ≡ block
  canonical_as =
      let length_same : length made ≡ record_at (slot_count block) =
      block-length (graph_of block) (holdable (graph_of block) table) version (stored_count block) ∙ ap record_at (length-slots block) in
      let Same : ℕ → Type 0 = λ i. byte_at made i ≡ byte_at block i in
      ext_get_or 0 made block (length_same ∙ sym (header-size block version sound.header))
      (λ i l. in_parts Same header_bytes (slot_bytes * slot_count block) header_same
      (in_pieces (λ j. Same (header_bytes + j)) slot_bytes (slot_count block) (omega arith) record_same) i (omega arith))

-- ---- and a sound block has the true ones: it is the block of its graph

pub counts_same : (version : ℕ) (one other : ℕ → ℕ) (g : Graph) → ((k : ℕ) → k < length g.slots → one k ≡ other k)
    → block_as version one g ≡ block_as version other g
unfolding block_as
counts_same version one other g same =
    ap (λ (bytes : List ℕ). header_block version (length g.slots) g.outputs ++ bytes)
    (pieces_same (record_block one g) (record_block other g) (length g.slots)
    (λ k l. ap (λ (n : ℕ). slot_block (count_tail n) (slot_of g k)) (same k l)))

pub canonical : (block : List ℕ) → SoundGraph block → Bytes block → graph_block (graph_of block) ≡ block
canonical block sound bytes =
    counts_same graph_version (true_count (graph_of block)) (stored_count block) (graph_of block)
    (λ k l. sym (sound.counts k (omega (arith, length-slots block))))
    ∙ canonical_as graph_version block sound.form bytes
