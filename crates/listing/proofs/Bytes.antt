-- A block that is made of the graph of a sheet that fits is a list of bytes.
-- Assumes nothing.
use mathlib.Core.Path.{◌≡◌}
use mathlib.Core.Bool.{true, false}
use mathlib.Core.List.{List, [], ◌∷◌, ◌++◌}
use mathlib.Core.Logic.{⊎_elim}
use Prim.Native.Nat.{ℕ, zero, suc, ◌-◌, ◌<◌, ◌%◌, ◌/◌}
use native.Mathlib.Omega.{arith}
use borrow.Author.Tests.{eqb-true}
use lib.Dec.{eqb}
use lib.ListN.{length, replicate}
use Rattle.definitions.specs.Lists.{tabulate, padded, concat_map}
use Rattle.definitions.specs.Fields.{Bytes, u16_bytes, u32_bytes}
use Rattle.definitions.specs.Operators.{kind_call}
use Rattle.definitions.specs.Graph.{header_bytes, outputs_end, tail_bytes, count_bytes, input_limit, attribute_limit, output_limit, unused_place, graph_letter, Slot, empty_slot, slot_of, count_tail, slot_block, record_block, header_block, block_as}
use Rattle.definitions.specs.Sheet.{Line, Sheet, LineFits, SheetFits}
use Rattle.definitions.specs.Listing.{slot_line, graph_in}
use Rattle.laws.proofs.Lists.{decided}
use Rattle.listing.proofs.Reach.{within_high}
use Rattle.listing.proofs.Words.{of_shape}
use Rattle.listing.specs.Grammar.{operator_of}
use Rattle.listing.proofs.Blocks.{slot_of_sheet, few_inputs_of, few_attributes_of}

-- ---- lists of bytes

data OfBytes : List ℕ → Type 0 where
  none : OfBytes []
  more : {b : ℕ} {bs : List ℕ} → b < 256 → OfBytes bs → OfBytes (b ∷ bs)

bytes_of : {bs : List ℕ} → OfBytes bs → Bytes bs
bytes_of none at = omega arith
bytes_of (more small rest) zero = small
bytes_of (more small rest) (suc at) = bytes_of rest at

both : {bs cs : List ℕ} → OfBytes bs → OfBytes cs → OfBytes (bs ++ cs)
both none second = second
both (more small rest) second = more small (both rest second)

each : {A : Type 0} (f : A → List ℕ) → ((a : A) → OfBytes (f a)) → (xs : List A) → OfBytes (concat_map f xs)
unfolding concat_map
each f bytes [] = none
each f bytes (x ∷ xs) = both (bytes x) (each f bytes xs)

zeros : (n : ℕ) → OfBytes (replicate n 0)
zeros zero = none
zeros (suc n) = more {b = 0} (omega arith) (zeros n)

u16_bytes_lem : (n : ℕ) → OfBytes (u16_bytes n)
unfolding u16_bytes
u16_bytes_lem n = more {b = n % 256} (omega arith) (more {b = n / 256 % 256} (omega arith) none)

u32_bytes_lem : (n : ℕ) → OfBytes (u32_bytes n)
unfolding u32_bytes
u32_bytes_lem n =
    more {b = n % 256} (omega arith) (more {b = n / 256 % 256} (omega arith)
    (more {b = n / 65536 % 256} (omega arith) (more {b = n / 16777216 % 256} (omega arith) none)))

-- ---- the parts of a block

header_bytes_lem : (version n : ℕ) (outputs : List ℕ) → OfBytes (header_block version n outputs)
unfolding header_block
header_bytes_lem version n outputs =
    let mark = more {b = 76} (omega arith) (more {b = 71} (omega arith) (more {b = graph_letter} (omega arith) (more {b = 0} (omega arith) none))) in
    let places = each u16_bytes u16_bytes_lem (padded output_limit unused_place outputs) in
    both (both (both (both (both mark (u16_bytes_lem version)) (u16_bytes_lem n)) (u16_bytes_lem (length outputs))) places) (zeros (header_bytes - outputs_end))

tail_bytes_lem : (n : ℕ) → OfBytes (count_tail n)
unfolding count_tail
tail_bytes_lem n = both (u16_bytes_lem n) (zeros (tail_bytes - count_bytes))

-- what a record holds as single bytes
record Small (s : Slot) : Type 0 where
  kind : s.kind < 256
  operator : s.operator < 256
  inputs : length s.inputs < 256
  attributes : length s.attributes < 256

record_bytes_lem : (s : Slot) (n : ℕ) → Small s → OfBytes (slot_block (count_tail n) s)
unfolding slot_block
record_bytes_lem s n small =
    let front = more small.kind (more small.operator (more small.inputs (more small.attributes none))) in
    let inputs = each u16_bytes u16_bytes_lem (padded input_limit unused_place s.inputs) in
    let attributes = each u32_bytes u32_bytes_lem (padded attribute_limit 0 s.attributes) in
    both (both (both front inputs) attributes) (tail_bytes_lem n)

-- ---- the graph of a sheet

operator_small : (kind operator : ℕ) → operator_of kind operator ≡ true → operator < 256
unfolding operator_of
operator_small kind operator h =
    ⊎_elim (λ (t : eqb kind kind_call ≡ true). omega (arith, within_high 1 operator 14 (rw t at h)))
    (λ (f : eqb kind kind_call ≡ false). omega (arith, eqb-true operator 0 (rw f at h)))
    (decided (eqb kind kind_call))

line-operator : (l : Line) → LineFits l → l.operator < 256
line-operator l fits =
    operator_small l.kind l.operator
    (of_shape l.kind l.operator (length l.inputs) (length l.attributes) fits.shape).operator-known

module _ (s : Sheet) (fits : SheetFits s) where
  small_kind : (k : ℕ) → (slot_of (graph_in s) k).kind < 256
  unfolding empty_slot slot_line
  small_kind = slot_of_sheet s fits (λ (x : Slot). x.kind < 256) (omega arith) (λ l fit. omega (arith, within_high 1 l.kind 5 fit.kind))

  small_operator : (k : ℕ) → (slot_of (graph_in s) k).operator < 256
  unfolding empty_slot slot_line
  small_operator = slot_of_sheet s fits (λ (x : Slot). x.operator < 256) (omega arith) line-operator

  pub sheet_bytes : (version : ℕ) (counts : ℕ → ℕ) → Bytes (block_as version counts (graph_in s))
  unfolding block_as
  sheet_bytes version counts =
      bytes_of (both (header_bytes_lem version (length (graph_in s).slots) (graph_in s).outputs)
      (each (record_block counts (graph_in s))
      (λ k. record_bytes_lem (slot_of (graph_in s) k) (counts k) (record {
        kind = small_kind k;
        operator = small_operator k;
        inputs = omega (arith, few_inputs_of s fits k);
        attributes = omega (arith, few_attributes_of s fits k);
      }))
      (tabulate (length (graph_in s).slots) (λ k. k))))
