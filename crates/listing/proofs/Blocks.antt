-- The graph of a sheet that fits, sound or not: a block can hold it, and its attributes are words. So it comes back from every block that is
-- made of it, and its listing is the sheet's text.
-- Assumes nothing.
use mathlib.Core.Path.{◌≡◌, sym, ap, ◌∙◌}
use mathlib.Core.Bool.{Bool, true, false}
use mathlib.Core.List.Memᴰ
use mathlib.Core.List.{List, [], ◌∷◌, map, Memᴰ}
use mathlib.Core.Logic.{⊎_elim}
use Prim.Native.Nat.{ℕ, suc, ◌-◌, ◌^◌, ◌≤◌, ◌<◌}
use native.Mathlib.Omega.{arith}
use borrow.Author.Tests.{ltb-true, ltb-false}
use lib.Dec.{eqb, ltb}
use lib.IntN.{ℤ, pos, negsuc}
use lib.ListN.{length, length-map}
use Rattle.definitions.specs.Lists.{all}
use Rattle.definitions.specs.Fields.{word_of}
use Rattle.definitions.specs.Graph.{slot_limit, output_limit, input_limit, attribute_limit, graph_version, record_at, Slot, Graph, empty_slot, slot_of, graph_of, block_as, SoundGraph}
use Rattle.definitions.specs.Numerals.{in_field}
use Rattle.definitions.specs.Sheet.{Line, Sheet, place_field, attribute_field, LineFits, LinesFit, SheetFits, printed}
use Rattle.definitions.specs.Listing.{sheet_of, listing, slot_line, slot_in, graph_in}
use Rattle.laws.proofs.Lists.{decided, all-member}
use Rattle.laws.proofs.Members.{mem-at}
use Rattle.laws.proofs.Operators.{few_inputs_lem, few_attributes_lem}
use Rattle.laws.proofs.Graph.{slot_past, length-slots, header-size}
use Rattle.encoding.specs.Tables.{Holdable, Words}
use Rattle.encoding.proofs.Blocks.{block-length, block_back}
use Rattle.listing.proofs.Reach.{within_high}
use Rattle.listing.proofs.Back.{size_back, slot_back, sheet_back}

-- ---- words of numbers that fit

place_small : (z : ℤ) → in_field place_field z ≡ true → word_of z < 65536
unfolding in_field word_of
place_small (pos n) h = omega (arith, within_high 0 n 65535 h)
place_small (negsuc n) h = absurd (omega (arith, ltb-true n 0 h))

word_small : (z : ℤ) → in_field attribute_field z ≡ true → word_of z < 2 ^ 32
unfolding in_field word_of
word_small (pos n) h = omega (arith, within_high 0 n (2 ^ 31 - 1) h)
word_small (negsuc n) h = omega arith

-- what holds of the word of each number that fits holds of every element
words-all : (p : ℤ → Bool) (limit : ℕ) → ((z : ℤ) → p z ≡ true → word_of z < limit) → (zs : List ℤ) → all p zs ≡ true
    → (w : ℕ) → Memᴰ w (map word_of zs) → w < limit
words-all p limit small zs fit w m =
    let (z, inside, is) = Memᴰ.of_map word_of zs m in
    rw (← is) (small z (all-member p fit inside))

-- ---- the slots of a sheet

-- a slot is the Empty one, or a line's that fits
slot_either : (P : Slot → Type 0) → P empty_slot → ((l : Line) → LineFits l → P (slot_line l)) → (from size : ℕ) (lines : List Line)
    → LinesFit from size lines → (k : ℕ) → P (slot_in lines k)
unfolding LinesFit slot_in
slot_either P none one from size [] fit k = none
slot_either P none one from size (l ∷ lines) (low, below, fits, rest) k =
    ⊎_elim (λ (t : eqb l.slot k ≡ true). rw t (one l fits))
    (λ (f : eqb l.slot k ≡ false). rw f (slot_either P none one (suc l.slot) size lines rest k))
    (decided (eqb l.slot k))

module _ (s : Sheet) (fits : SheetFits s) where
  pub slot_of_sheet : (P : Slot → Type 0) → P empty_slot → ((l : Line) → LineFits l → P (slot_line l)) → (k : ℕ) → P (slot_of (graph_in s) k)
  slot_of_sheet P none one k =
      ⊎_elim (λ (t : ltb k s.size ≡ true).
      rw (slot_back s k (omega arith) (ltb-true k s.size t)) (slot_either P none one 0 s.size s.lines fits.lines k))
      (λ (f : ltb k s.size ≡ false).
      rw (slot_past (graph_in s) k (omega (arith, size_back s, ltb-false k s.size f))) none)
      (decided (ltb k s.size))

  pub few_inputs_of : (k : ℕ) → length (slot_of (graph_in s) k).inputs ≤ input_limit
  unfolding empty_slot slot_line
  few_inputs_of = slot_of_sheet (λ (x : Slot). length x.inputs ≤ input_limit) (omega arith)
      (λ l fit. rw (length-map l.inputs word_of)
      (few_inputs_lem l.kind l.operator (length l.inputs) (length l.attributes) fit.shape))

  pub few_attributes_of : (k : ℕ) → length (slot_of (graph_in s) k).attributes ≤ attribute_limit
  unfolding empty_slot slot_line
  few_attributes_of = slot_of_sheet (λ (x : Slot). length x.attributes ≤ attribute_limit) (omega arith)
      (λ l fit. rw (length-map l.attributes word_of)
      (few_attributes_lem l.kind l.operator (length l.inputs) (length l.attributes) fit.shape))

  inputs_small : (k w : ℕ) → Memᴰ w (slot_of (graph_in s) k).inputs → w < 65536
  unfolding empty_slot slot_line
  inputs_small = slot_of_sheet (λ (x : Slot). (w : ℕ) → Memᴰ w x.inputs → w < 65536) (λ w m. absurd (Memᴰ.not-nil m))
      (λ l fit. words-all (in_field place_field) 65536 place_small l.inputs fit.inputs)

  attributes_small : (k w : ℕ) → Memᴰ w (slot_of (graph_in s) k).attributes → w < 2 ^ 32
  unfolding empty_slot slot_line
  attributes_small = slot_of_sheet (λ (x : Slot). (w : ℕ) → Memᴰ w x.attributes → w < 2 ^ 32) (λ w m. absurd (Memᴰ.not-nil m))
      (λ l fit. words-all (in_field attribute_field) (2 ^ 32) word_small l.attributes fit.attributes)

  few_outputs_of : length (graph_in s).outputs ≤ output_limit
  unfolding graph_in
  few_outputs_of = rw (length-map s.outputs word_of) (within_high 1 (length s.outputs) output_limit fits.count)

  outputs_small : (w : ℕ) → Memᴰ w (graph_in s).outputs → w < 65536
  unfolding graph_in
  outputs_small = words-all (in_field place_field) 65536 place_small s.outputs fits.outputs

  -- ---- so a block can hold the graph, and it comes back

  pub sheet_holdable : Holdable (graph_in s)
  sheet_holdable = record {
    slots = omega (arith, size_back s, within_high 1 s.size slot_limit fits.size);
    outputs = few_outputs_of;
    inputs = λ k l. few_inputs_of k;
    attributes = λ k l. few_attributes_of k;
    input_places = λ k i l. inputs_small k _ (mem-at (slot_of (graph_in s) k).inputs i _ l);
    output_places = λ i l. outputs_small _ (mem-at (graph_in s).outputs i _ l);
  }

  pub sheet-words : Words (graph_in s)
  sheet-words k l = attributes_small k

  pub sheet-read : (version : ℕ) (counts : ℕ → ℕ) → graph_of (block_as version counts (graph_in s)) ≡ graph_in s
  sheet-read version counts = block_back (graph_in s) sheet_holdable version counts sheet-words

  -- so the listing of what is read from it is the sheet's text
  pub sheet-listing : (version : ℕ) (counts : ℕ → ℕ) → listing (graph_of (block_as version counts (graph_in s))) ≡ printed s
  unfolding listing
  sheet-listing version counts = ap (λ (g : Graph). printed (sheet_of g)) (sheet-read version counts) ∙ ap printed (sheet_back s fits)

  pub sheet-length : (version : ℕ) (counts : ℕ → ℕ) → length (block_as version counts (graph_in s)) ≡ record_at s.size
  sheet-length version counts = block-length (graph_in s) sheet_holdable version counts ∙ ap record_at (size_back s)

-- a sound block is as long as its sheet's size says
pub block_size : (block : List ℕ) → SoundGraph block → length block ≡ record_at (sheet_of (graph_of block)).size
unfolding sheet_of
block_size block sound = header-size block graph_version sound.form.header ∙ ap record_at (sym (length-slots block))
