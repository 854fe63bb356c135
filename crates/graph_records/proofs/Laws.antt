-- What a written record is: the bytes of the slot for which the record stands.
-- Assumes nothing.
use mathlib.Core.Path.{◌≡◌, refl}
use mathlib.Core.List.{List}
use Prim.Native.Nat.{ℕ}
use native.Mathlib.Omega.{arith}
use lib.ListN.{length, length-append}
use Rattle.definitions.specs.Fields.{u16_bytes, u32_bytes}
use Rattle.definitions.specs.Graph.{slot_bytes, tail_bytes, input_limit, attribute_limit, Slot, slot_block}
use Rattle.laws.proofs.Pieces.{length_pieces}
use Rattle.graph_records.specs.declared.Record.{Record}
use Rattle.graph_records.specs.Records.{fields_of, record_bytes, Stands}

pub stands_bytes : (tail : List ℕ) (r : Record) (s : Slot) → Stands r s → record_bytes tail r ≡ slot_block tail s
unfolding fields_of slot_block
stands_bytes tail r s h = rw (h.kind, h.operator, h.input_count, h.attribute_count, h.inputs, h.attributes)

pub record_length : (tail : List ℕ) (r : Record) → length tail ≡ tail_bytes → length r.inputs ≡ input_limit
    → length r.attributes ≡ attribute_limit → length (record_bytes tail r) ≡ slot_bytes
unfolding fields_of u16_bytes u32_bytes
record_length tail r size inputs attributes =
    simp length-append
    (omega (arith, length_pieces u16_bytes 2 0 r.inputs (λ k l. refl), length_pieces u32_bytes 4 0 r.attributes (λ k l. refl)))
