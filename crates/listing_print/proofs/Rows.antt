-- The rows of a graph's numbers, and how one more number of a row is printed.
-- Assumes nothing.
use mathlib.Core.Path.{◌≡◌, refl, sym, ap, ◌∙◌}
use mathlib.Core.Bool.{true, false}
use mathlib.Core.List.{List, [], ◌∷◌, ◌++◌, map, append_assoc}
use Prim.Native.Nat.{ℕ, zero, suc, ◌+◌, ◌*◌, ◌≤◌, ◌<◌}
use native.Mathlib.Numerals.{add-one}
use native.Mathlib.Omega.{arith}
use lib.IntN.{ℤ, pos}
use lib.ListN.{length, get_or, take, drop, take-append-drop}
use lib.Seq.{take-suc, take_all, slice, slice_empty, drop-append-le, length-take-le}
use Rattle.definitions.specs.Lists.{tabulate, concat_map}
use Rattle.definitions.specs.Numerals.{numeral}
use Rattle.definitions.specs.Sheet.{spaced, joined}
use Rattle.definitions.specs.Fields.{byte_at, u16_at, u32_at, signed}
use Rattle.definitions.specs.Graph.{inputs_offset, attributes_offset, outputs_offset, slot_count, output_count, record_at, Slot, slot_from, graph_of, slot_of, inputs_of}
use Rattle.laws.proofs.Lists.{length_none, length-tabulate, get_or_tabulate}
use Rattle.laws.proofs.Pieces.{concat_more}
use Rattle.laws.proofs.Graph.{slot_of_lem, length-inputs, length-attributes}
use Rattle.listing_print.specs.declared.Row.{Row}
use Rattle.listing_print.specs.Laid.{text_limit}
use Rattle.listing_print.specs.Rows.{number_in, numbers_in}
use Rattle.listing_print.proofs.Laying.{room-first}

map-tabulate : {A B : Type 0} (f : A → B) (n : ℕ) (h : ℕ → A) → tabulate n (λ i. f (h i)) ≡ map f (tabulate n h)
unfolding tabulate
map-tabulate f zero h = refl
map-tabulate f (suc n) h = ap (λ xs. f (h 0) ∷ xs) (map-tabulate f n (λ i. h (suc i)))

module _ (block : List ℕ) (k count : ℕ) (inside : k < slot_count block) where
  slot : slot_of (graph_of block) k ≡ slot_from block (record_at k)
  slot = slot_of_lem block k inside

  pub inputs-row : count ≡ length (inputs_of (graph_of block) k)
      → numbers_in block (record { from = record_at k + inputs_offset; count = count; wide = false }) ≡ map pos (inputs_of (graph_of block) k)
  unfolding numbers_in number_in slot_from
  inputs-row e =
      ap (λ (n : ℕ). tabulate n (λ i. pos (u16_at block (record_at k + inputs_offset + 2 * i))))
      (e ∙ ap (λ (s : Slot). length s.inputs) slot ∙ length-inputs block (record_at k))
      ∙ map-tabulate pos (byte_at block (record_at k + 2)) (λ i. u16_at block (record_at k + inputs_offset + 2 * i))
      ∙ ap (λ (s : Slot). map pos s.inputs) (sym slot)

  pub attributes-row : count ≡ length (slot_of (graph_of block) k).attributes
      → numbers_in block (record { from = record_at k + attributes_offset; count = count; wide = true })
      ≡ map signed (slot_of (graph_of block) k).attributes
  unfolding numbers_in number_in slot_from
  attributes-row e =
      ap (λ (n : ℕ). tabulate n (λ i. signed (u32_at block (record_at k + attributes_offset + 4 * i))))
      (e ∙ ap (λ (s : Slot). length s.attributes) slot ∙ length-attributes block (record_at k))
      ∙ map-tabulate signed (byte_at block (record_at k + 3)) (λ i. u32_at block (record_at k + attributes_offset + 4 * i))
      ∙ ap (λ (s : Slot). map signed s.attributes) (sym slot)

pub outputs-row : (block : List ℕ) (count : ℕ) → count ≡ output_count block
    → numbers_in block (record { from = outputs_offset; count = count; wide = false }) ≡ map pos (graph_of block).outputs
unfolding numbers_in number_in graph_of
outputs-row block count e =
    ap (λ (n : ℕ). tabulate n (λ i. pos (u16_at block (outputs_offset + 2 * i)))) e
    ∙ map-tabulate pos (output_count block) (λ i. u16_at block (outputs_offset + 2 * i))

-- ---- the numbers of a row

module _ (block : List ℕ) (row : Row) where
  pub length-row : length (numbers_in block row) ≡ row.count
  unfolding numbers_in
  length-row = length-tabulate row.count (number_in block row.from row.wide)

  pub row_at : (i : ℕ) (d : ℤ) → i < row.count → get_or (numbers_in block row) i d ≡ number_in block row.from row.wide i
  unfolding numbers_in
  row_at i d inside = get_or_tabulate row.count (number_in block row.from row.wide) i d inside

-- ---- numbers that are printed one behind the other

spaced-append : (xs ys : List ℤ) → spaced (xs ++ ys) ≡ spaced xs ++ spaced ys
unfolding spaced concat_map
spaced-append [] ys = refl
spaced-append (x ∷ xs) ys = ap (λ (t : List ℕ). 32 ∷ numeral x ++ t) (spaced-append xs ys) ∙ sym (append_assoc (32 ∷ numeral x) (spaced xs) (spaced ys))

module _ (zs : List ℤ) (first : ℕ) where
  -- before the first of them, and behind the last
  pub spaced_none : spaced (slice first first zs) ≡ []
  unfolding spaced concat_map
  spaced_none = ap spaced (slice_empty first zs)

  pub spaced-all : (i : ℕ) → length zs ≤ i → spaced (slice first i zs) ≡ spaced (drop first zs)
  spaced-all i past = ap (λ (ys : List ℤ). spaced (drop first ys)) (take_all i zs past)

  module _ (i : ℕ) (z : ℤ) (low : first ≤ i) (inside : i < length zs) (same : get_or zs i (pos 0) ≡ z) where
    slice_more : slice first (suc i) zs ≡ slice first i zs ++ z ∷ []
    slice_more =
        ap (drop first) (take-suc zs i (pos 0) inside ∙ ap (λ (x : ℤ). take i zs ++ x ∷ []) same)
        ∙ drop-append-le first (take i zs) (z ∷ []) (omega (arith, length-take-le i zs (omega arith)))

    -- one more
    more : spaced (slice first (suc i) zs) ≡ spaced (slice first i zs) ++ 32 ∷ numeral z
    unfolding spaced
    more = ap spaced slice_more ∙ concat_more (λ x. 32 ∷ numeral x) (slice first i zs) z

    pub spaced_more : spaced (slice first (i + 1) zs) ≡ spaced (slice first i zs) ++ 32 ∷ numeral z
    spaced_more = ap (λ (n : ℕ). spaced (slice first n zs)) (add-one i) ∙ more

    -- where all have room, one more has
    pub spaced-room : (at : ℕ) → at + length (spaced (drop first zs)) ≤ text_limit
        → at + length (spaced (slice first i zs) ++ 32 ∷ numeral z) ≤ text_limit
    spaced-room at room =
        let split : drop first zs ≡ slice first (suc i) zs ++ drop (suc i) zs =
        ap (drop first) (sym (take-append-drop (suc i) zs))
        ∙ drop-append-le first (take (suc i) zs) (drop (suc i) zs) (omega (arith, length-take-le (suc i) zs (omega arith))) in
        let whole = ap spaced split ∙ spaced-append (slice first (suc i) zs) (drop (suc i) zs) in
        rw more at (room-first (spaced (slice first (suc i) zs)) (spaced (drop (suc i) zs)) at (rw whole at room))

-- ---- numbers with single spaces between them

pub joined_none : (zs : List ℤ) → length zs ≡ 0 → joined zs ≡ []
unfolding joined
joined_none zs none = ap joined (length_none zs none)

pub joined_some : (zs : List ℤ) (z : ℤ) → 0 < length zs → get_or zs 0 (pos 0) ≡ z → joined zs ≡ numeral z ++ spaced (drop 1 zs)
unfolding joined
joined_some [] z some same = absurd (omega arith)
joined_some (x ∷ xs) z some same = ap (λ (y : ℤ). numeral y ++ spaced xs) same
