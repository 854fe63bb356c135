-- The header of a block: its 24 bytes, part by part; what a block holds that begins with them; and that a header that fits is the
-- header of its counts and outputs.
-- Assumes nothing.
use mathlib.Core.Path.{◌≡◌, refl, sym, ap, ◌∙◌}
use mathlib.Core.Bool.{true, and-false}
use mathlib.Core.List.{List, [], ◌∷◌, ◌++◌}
use mathlib.Core.Logic.{◌⊎◌, ⊎_elim}
use Prim.Native.Nat.{ℕ, zero, suc, ◌+◌, ◌-◌, ◌*◌, ◌<◌, ◌≤◌}
use native.Mathlib.Omega.{arith}
use borrow.Author.Tests.{eq-eqb, eqb-true}
use lib.Dec.{eqb}
use lib.ListN.{length, get_or, replicate, get_or-replicate}
use Rattle.definitions.specs.Lists.{within, padded, concat_map}
use Rattle.definitions.specs.Fields.{byte_at, Bytes, u16_at, filled, mark_fits, u16_bytes}
use Rattle.definitions.specs.Graph.{header_bytes, outputs_offset, outputs_end, slot_limit, output_limit, unused_place, graph_letter, version_offset, slot_count, output_count, record_at, graph_of, header_block, output_places_fit, header_fits}
use Rattle.laws.proofs.Lists.{needed}
use Rattle.laws.proofs.Graph.{length-outputs, output_of, few_outputs_lem}
use Rattle.encoding.proofs.Pieces.{in_parts, below_four, at_first, at_second, length_two, tabulated}
use Rattle.encoding.proofs.Numbers.{length_u16, u16_back, u16_bytes_lem, u16_unused, filled_every, filled_at}
use Rattle.encoding.proofs.Places.{length-places, place-held, others-filled, places-held}

-- ---- the parts of a header: the mark, seven 16-bit places, of which the outputs take what the counts leave, and zero bytes

abbrev mark : List ℕ
mark = 76 ∷ 71 ∷ graph_letter ∷ 0 ∷ []

abbrev zero_bytes : ℕ
zero_bytes = header_bytes - outputs_end

abbrev zeros : List ℕ
zeros = replicate zero_bytes 0

abbrev words : ℕ → ℕ → List ℕ → List ℕ
words version n outputs = version ∷ n ∷ length outputs ∷ outputs

abbrev word_places : ℕ → ℕ → List ℕ → List ℕ
word_places version n outputs = concat_map u16_bytes (padded 7 unused_place (words version n outputs))

module _ (version n : ℕ) (outputs : List ℕ) (few : length outputs ≤ output_limit) where
  parts : header_block version n outputs ≡ mark ++ word_places version n outputs ++ zeros
  unfolding header_block u16_bytes concat_map padded
  parts = refl

  few_words : length (words version n outputs) ≤ 7
  few_words = omega arith

  upto_words : length (mark ++ word_places version n outputs) ≡ outputs_end
  upto_words = length_two mark (word_places version n outputs) 4 14 refl
      (length-places u16_bytes 2 7 unused_place (words version n outputs) length_u16 few_words)

  pub length-header : length (header_block version n outputs) ≡ header_bytes
  length-header = rw parts (length_two (mark ++ word_places version n outputs) zeros outputs_end zero_bytes upto_words refl)

  -- ---- and where they stand

  word_byte : (i : ℕ) → i < 14 → get_or (header_block version n outputs) (4 + i) 0 ≡ get_or (word_places version n outputs) i 0
  word_byte i l =
      rw parts (at_first (mark ++ word_places version n outputs) zeros outputs_end (4 + i) 0 upto_words (omega arith)
      ∙ at_second mark (word_places version n outputs) 4 i 0 refl)

  zero_byte : (i : ℕ) → i < zero_bytes → get_or (header_block version n outputs) (outputs_end + i) 0 ≡ 0
  zero_byte i l =
      rw parts (at_second (mark ++ word_places version n outputs) zeros outputs_end i 0 upto_words ∙ get_or-replicate zero_bytes i 0 0 l)

  -- ---- a block that begins with the header

  module _ (block : List ℕ) (held : (i : ℕ) → i < header_bytes → byte_at block i ≡ get_or (header_block version n outputs) i 0) where
    words-held : (i : ℕ) → i < 14 → byte_at block (4 + i) ≡ get_or (word_places version n outputs) i 0
    words-held i l = held (4 + i) (omega arith) ∙ word_byte i l

    -- a place holds its number, where the number fits
    word_back : (k : ℕ) → k < 7 → get_or (words version n outputs) k unused_place < 65536
        → u16_at block (4 + 2 * k) ≡ get_or (words version n outputs) k unused_place
    word_back k l =
        u16_back block (4 + 2 * k) (get_or (words version n outputs) k unused_place)
        (place-held u16_bytes 2 7 unused_place (words version n outputs) length_u16 few_words block 4 words-held k l)

    pub count_back : n < 65536 → slot_count block ≡ n
    count_back = word_back 1 (omega arith)

    pub output-count_back : output_count block ≡ length outputs
    output-count_back = word_back 2 (omega arith) (omega arith)

    pub outputs_back : ((k : ℕ) → k < length outputs → get_or outputs k unused_place < 65536) → (graph_of block).outputs ≡ outputs
    unfolding graph_of
    outputs_back small =
        tabulated (output_count block) (λ k. u16_at block (outputs_offset + 2 * k)) outputs unused_place output-count_back
        (λ k l.
        let e : 4 + 2 * suc (suc (suc k)) ≡ outputs_offset + 2 * k = omega arith in
        rw e at (word_back (suc (suc (suc k))) (omega arith) (small k l)))

    -- ---- the header fits where the counts do

    marked : mark_fits block graph_letter ≡ true
    unfolding mark_fits header_block
    marked = simp (held 0 (omega arith), held 1 (omega arith), held 2 (omega arith), held 3 (omega arith))

    unused_outputs : filled block (outputs_offset + 2 * length outputs) outputs_end 255 ≡ true
    unused_outputs =
        let e : 4 + 2 * length (words version n outputs) ≡ outputs_offset + 2 * length outputs = omega arith in
        rw e at (others-filled u16_bytes 2 7 unused_place (words version n outputs) length_u16 few_words block 4 outputs_end 255
        (omega arith) u16_unused refl words-held)

    zero_end : filled block outputs_end header_bytes 0 ≡ true
    zero_end = filled_every block outputs_end header_bytes 0 (λ i l. held (outputs_end + i) (omega arith) ∙ zero_byte i (omega arith))

    pub header-fits : length block ≡ record_at n → within 1 n slot_limit ≡ true → within 1 (length outputs) output_limit ≡ true
        → version < 65536 → n < 65536 → header_fits version block ≡ true
    unfolding header_fits output_places_fit
    header-fits size slots places known small =
        simp (
          count_back small,
          output-count_back,
          eq-eqb (length block) (record_at n) size,
          marked,
          eq-eqb (u16_at block 4) version (word_back 0 (omega arith) known),
          slots,
          places,
          unused_outputs,
          zero_end,
        )

-- ---- two headers of other versions differ in the two bytes of the version alone

abbrev behind_version : ℕ → List ℕ → List ℕ
behind_version n outputs =
    u16_bytes n ++ u16_bytes (length outputs) ++ concat_map u16_bytes (padded output_limit unused_place outputs) ++ zeros

version_parts : (version n : ℕ) (outputs : List ℕ)
    → header_block version n outputs ≡ mark ++ (u16_bytes version ++ behind_version n outputs)
unfolding header_block u16_bytes
version_parts version n outputs = refl

pub version_apart : (one other n : ℕ) (outputs : List ℕ) (i : ℕ) → (i < version_offset) ⊎ (version_offset + 2 ≤ i)
    → get_or (header_block one n outputs) i 0 ≡ get_or (header_block other n outputs) i 0
version_apart one other n outputs i outside =
    rw (version_parts one n outputs, version_parts other n outputs)
    (⊎_elim
    (λ (l : i < version_offset).
    at_first mark (u16_bytes one ++ behind_version n outputs) 4 i 0 refl l
    ∙ sym (at_first mark (u16_bytes other ++ behind_version n outputs) 4 i 0 refl l))
    (λ (l : version_offset + 2 ≤ i).
    let e : 4 + (2 + (i - 6)) ≡ i = omega arith in
    rw e at (behind one (i - 6) ∙ sym (behind other (i - 6))))
    outside)
  where
    behind : (version j : ℕ) → get_or (mark ++ (u16_bytes version ++ behind_version n outputs)) (4 + (2 + j)) 0 ≡ get_or (behind_version n outputs) j 0
    behind version j =
        at_second mark (u16_bytes version ++ behind_version n outputs) 4 (2 + j) 0 refl
        ∙ at_second (u16_bytes version) (behind_version n outputs) 2 j 0 (length_u16 version)

-- ---- a header that fits is that of its counts and outputs

module _ (version : ℕ) (block : List ℕ) (fits : header_fits version block ≡ true) where
  few_outputs-read : length (graph_of block).outputs ≤ output_limit
  few_outputs-read = rw (length-outputs block) (few_outputs_lem block version fits)

  mark-read : (i : ℕ) → i < 4 → get_or (header_block version (slot_count block) (graph_of block).outputs) i 0 ≡ byte_at block i
  unfolding header_fits mark_fits header_block
  mark-read =
      below_four (λ i. get_or (header_block version (slot_count block) (graph_of block).outputs) i 0 ≡ byte_at block i)
      (sym (eqb-true _ _ (needed (eqb (byte_at block 0) 76) fits (λ f. simp (f, and-false)))))
      (sym (eqb-true _ _ (needed (eqb (byte_at block 1) 71) fits (λ f. simp (f, and-false)))))
      (sym (eqb-true _ _ (needed (eqb (byte_at block 2) graph_letter) fits (λ f. simp (f, and-false)))))
      (sym (eqb-true _ _ (needed (eqb (byte_at block 3) 0) fits (λ f. simp (f, and-false)))))

  word_read : (k : ℕ) → k < length (words version (slot_count block) (graph_of block).outputs)
      → get_or (words version (slot_count block) (graph_of block).outputs) k unused_place ≡ u16_at block (4 + 2 * k)
  unfolding header_fits
  word_read zero l = sym (eqb-true _ _ (needed (eqb (u16_at block 4) version) fits (λ f. simp (f, and-false))))
  word_read (suc zero) l = refl
  word_read (suc (suc zero)) l = length-outputs block
  word_read (suc (suc (suc k))) l =
      let e : 4 + 2 * suc (suc (suc k)) ≡ outputs_offset + 2 * k = omega arith in
      rw e (output_of block k unused_place (omega (arith, length-outputs block)))

  unused_outputs-read : filled block (4 + 2 * length (words version (slot_count block) (graph_of block).outputs)) outputs_end 255 ≡ true
  unfolding header_fits output_places_fit
  unused_outputs-read =
      let e : 4 + 2 * length (words version (slot_count block) (graph_of block).outputs) ≡ outputs_offset + 2 * output_count block =
      omega (arith, length-outputs block) in
      rw e (needed (filled block (outputs_offset + 2 * output_count block) outputs_end 255) fits (λ f. simp (f, and-false)))

  zero_end-read : (i : ℕ) → i < zero_bytes → byte_at block (outputs_end + i) ≡ 0
  unfolding header_fits
  zero_end-read = filled_at block outputs_end header_bytes 0 (needed (filled block outputs_end header_bytes 0) fits (λ f. simp (f, and-false)))

  pub header_read : Bytes block → (i : ℕ) → i < header_bytes
      → get_or (header_block version (slot_count block) (graph_of block).outputs) i 0 ≡ byte_at block i
  header_read bytes =
      let n = slot_count block in
      let outputs = (graph_of block).outputs in
      let Same : ℕ → Type 0 = λ i. get_or (header_block version n outputs) i 0 ≡ byte_at block i in
      in_parts Same outputs_end zero_bytes
      (in_parts Same 4 14 mark-read
      (λ i l. word_byte version n outputs few_outputs-read i l
      ∙ places-held u16_bytes 2 7 unused_place (words version n outputs) length_u16 (few_words version n outputs few_outputs-read) block 4 outputs_end 255
      (omega arith) u16_unused refl
      (λ k h j m. ap (λ (x : ℕ). get_or (u16_bytes x) j 0) (word_read k h) ∙ u16_bytes_lem block bytes (4 + 2 * k) j m)
      unused_outputs-read i l))
      (λ i l. zero_byte version n outputs few_outputs-read i l ∙ sym (zero_end-read i l))
