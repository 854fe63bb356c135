-- Slots of a graph, and the graph of a block, field by field: one law for each field, over the index.
-- Assumes nothing.
use mathlib.Core.Path.{◌≡◌, ap, subst}
use mathlib.Core.Bool.{true, false, and-false}
use mathlib.Core.List.Memᴰ
use mathlib.Core.List.{List, [], Memᴰ}
use mathlib.Core.Logic.{⊎_elim}
use Prim.Native.Nat.{ℕ, ◌+◌, ◌*◌, ◌<◌, ◌≤◌}
use borrow.Author.Tests.{eqb-true, leb-true, leb-false}
use lib.Dec.{eqb, leb}
use lib.ListN.{length, get_or, get_or-eq_default}
use Rattle.definitions.specs.Lists.{within}
use Rattle.definitions.specs.Fields.{byte_at, u16_at, u32_at}
use Rattle.definitions.specs.Operators.{shape_fits}
use Rattle.definitions.specs.Paths.{Reads}
use Rattle.definitions.specs.Graph.{slot_limit, output_limit, slot_count, output_count, record_at, Slot, Graph, empty_slot, slot_from, graph_of, slot_of, inputs_of, is_vertex, output_places_fit, header_fits, record_fits}
use Rattle.laws.proofs.Lists.{decided, true_not_false, and_right, needed, length-tabulate, get_or_tabulate}

-- ---- any graph: past the last slot there is nothing

pub slot_past : (g : Graph) (v : ℕ) → length g.slots ≤ v → slot_of g v ≡ empty_slot
unfolding slot_of
slot_past g v h = get_or-eq_default g.slots empty_slot h

pub inputs_past : (g : Graph) (v : ℕ) → length g.slots ≤ v → inputs_of g v ≡ []
unfolding empty_slot
inputs_past g v h = ap (λ (s : Slot). s.inputs) (slot_past g v h)

-- so what reads is a slot
pub reader-inside : (g : Graph) (w v : ℕ) → Reads (inputs_of g) w v → w < length g.slots
reader-inside g w v m =
    ⊎_elim (λ (t : leb (length g.slots) w ≡ true).
    absurd (Memᴰ.not-nil (subst (Memᴰ v) (inputs_past g w (leb-true (length g.slots) w t)) m)))
    (λ (t : leb (length g.slots) w ≡ false). leb-false (length g.slots) w t)
    (decided (leb (length g.slots) w))

-- and so is a vertex
pub vertex-inside : (g : Graph) (v : ℕ) → is_vertex g v ≡ true → v < length g.slots
unfolding is_vertex empty_slot
vertex-inside g v t =
    ⊎_elim (λ (e : leb (length g.slots) v ≡ true).
    absurd (true_not_false t (rw (slot_past g v (leb-true (length g.slots) v e)))))
    (λ (e : leb (length g.slots) v ≡ false). leb-false (length g.slots) v e)
    (decided (leb (length g.slots) v))

-- ---- the graph of a block

module _ (block : List ℕ) where
  pub length-slots : length (graph_of block).slots ≡ slot_count block
  unfolding graph_of
  length-slots = length-tabulate (slot_count block) (λ k. slot_from block (record_at k))

  pub length-outputs : length (graph_of block).outputs ≡ output_count block
  unfolding graph_of
  length-outputs = length-tabulate (output_count block) (λ i. u16_at block (10 + 2 * i))

  -- slot k is read from its record
  pub slot_of_lem : (k : ℕ) → k < slot_count block → slot_of (graph_of block) k ≡ slot_from block (record_at k)
  unfolding graph_of slot_of
  slot_of_lem k h = get_or_tabulate (slot_count block) (λ j. slot_from block (record_at j)) k empty_slot h

  pub output_of : (i d : ℕ) → i < output_count block → get_or (graph_of block).outputs i d ≡ u16_at block (10 + 2 * i)
  unfolding graph_of
  output_of i d h = get_or_tabulate (output_count block) (λ j. u16_at block (10 + 2 * j)) i d h

  pub length-inputs : (at : ℕ) → length (slot_from block at).inputs ≡ byte_at block (at + 2)
  unfolding slot_from
  length-inputs at = length-tabulate (byte_at block (at + 2)) (λ i. u16_at block (at + 4 + 2 * i))

  pub input_of : (at i d : ℕ) → i < byte_at block (at + 2) → get_or (slot_from block at).inputs i d ≡ u16_at block (at + 4 + 2 * i)
  unfolding slot_from
  input_of at i d h = get_or_tabulate (byte_at block (at + 2)) (λ j. u16_at block (at + 4 + 2 * j)) i d h

  pub length-attributes : (at : ℕ) → length (slot_from block at).attributes ≡ byte_at block (at + 3)
  unfolding slot_from
  length-attributes at = length-tabulate (byte_at block (at + 3)) (λ i. u32_at block (at + 16 + 4 * i))

  pub attribute_of_lem : (at i d : ℕ) → i < byte_at block (at + 3)
      → get_or (slot_from block at).attributes i d ≡ u32_at block (at + 16 + 4 * i)
  unfolding slot_from
  attribute_of_lem at i d h = get_or_tabulate (byte_at block (at + 3)) (λ j. u32_at block (at + 16 + 4 * j)) i d h

  -- ---- what a header that fits says, and a record that follows its kind

  module _ (version : ℕ) (fits : header_fits version block ≡ true) where
    pub header-size : length block ≡ record_at (slot_count block)
    unfolding header_fits
    header-size =
        eqb-true (length block) (record_at (slot_count block))
        (needed (eqb (length block) (record_at (slot_count block))) fits (λ f. simp f))

    pub slots-within : within 1 (slot_count block) slot_limit ≡ true
    unfolding header_fits
    slots-within = needed (within 1 (slot_count block) slot_limit) fits (λ f. simp (f, and-false))

    pub few_slots : slot_count block ≤ slot_limit
    few_slots =
        leb-true (slot_count block) slot_limit (and_right (leb 1 (slot_count block)) (leb (slot_count block) slot_limit) slots-within)

    pub outputs-within : within 1 (output_count block) output_limit ≡ true
    unfolding header_fits output_places_fit
    outputs-within = needed (within 1 (output_count block) output_limit) fits (λ f. simp (f, and-false))

    pub few_outputs_lem : output_count block ≤ output_limit
    few_outputs_lem =
        leb-true (output_count block) output_limit
        (and_right (leb 1 (output_count block)) (leb (output_count block) output_limit) outputs-within)

  pub record_shape : (version at : ℕ) → record_fits version block at ≡ true
      → shape_fits (byte_at block at) (byte_at block (at + 1)) (byte_at block (at + 2)) (byte_at block (at + 3)) ≡ true
  unfolding record_fits
  record_shape version at fits =
      needed (shape_fits (byte_at block at) (byte_at block (at + 1)) (byte_at block (at + 2)) (byte_at block (at + 3))) fits (λ f. simp f)
