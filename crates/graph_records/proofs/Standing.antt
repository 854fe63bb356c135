-- A record that is read where a block holds a slot stands for that slot.
-- Assumes nothing.
use mathlib.Core.Path.{◌≡◌, ◌∙◌, sym}
use mathlib.Core.List.{List}
use Prim.Native.Nat.{ℕ, ◌+◌, ◌*◌, ◌<◌}
use native.Mathlib.Omega.{arith}
use lib.ListN.{get_or}
use Rattle.definitions.specs.Lists.{padded}
use Rattle.definitions.specs.Fields.{byte_at, u16_at, u32_at}
use Rattle.definitions.specs.Graph.{slot_bytes, inputs_offset, attributes_offset, input_limit, attribute_limit, unused_place, Slot, slot_block}
use Rattle.laws.proofs.Padded.{length-padded, padded-at}
use Rattle.encoding.proofs.Pieces.{tabulated}
use Rattle.encoding.proofs.Records.{kind_back, operator_back, input_count_back, attribute_count_back, input_back, attribute_back}
use Rattle.graph_arrays.specs.Arrays.{inputs_at, attributes_at}
use Rattle.graph_records.specs.declared.Record.{Record}
use Rattle.graph_records.specs.Records.{Stands, Writable, ReadFrom}

module _ (tail : List ℕ) (s : Slot) (fits : Writable s) (block : List ℕ) (at : ℕ)
    (held : (i : ℕ) → i < slot_bytes → byte_at block (at + i) ≡ get_or (slot_block tail s) i 0) where
  inputs_read : inputs_at block at ≡ padded input_limit unused_place s.inputs
  unfolding inputs_at
  inputs_read =
      tabulated input_limit (λ i. u16_at block (at + inputs_offset + 2 * i)) (padded input_limit unused_place s.inputs) unused_place
      (sym (length-padded unused_place input_limit s.inputs fits.few_inputs))
      (λ i l.
      input_back s fits.few_inputs fits.few_attributes tail block at held i
      (omega (arith, length-padded unused_place input_limit s.inputs fits.few_inputs)) (fits.small_inputs i)
      ∙ sym (padded-at unused_place input_limit s.inputs i))

  attributes-read : attributes_at block at ≡ padded attribute_limit 0 s.attributes
  unfolding attributes_at
  attributes-read =
      tabulated attribute_limit (λ i. u32_at block (at + attributes_offset + 4 * i)) (padded attribute_limit 0 s.attributes) 0
      (sym (length-padded 0 attribute_limit s.attributes fits.few_attributes))
      (λ i l.
      attribute_back s fits.few_inputs fits.few_attributes tail block at held i
      (omega (arith, length-padded 0 attribute_limit s.attributes fits.few_attributes)) (fits.words i)
      ∙ sym (padded-at 0 attribute_limit s.attributes i))

  pub stands_read : {r : Record} → ReadFrom block at r → Stands r s
  stands_read read = record {
    kind = read.kind ∙ kind_back s fits.few_inputs fits.few_attributes tail block at held;
    operator = read.operator ∙ operator_back s fits.few_inputs fits.few_attributes tail block at held;
    input_count = read.input_count ∙ input_count_back s fits.few_inputs fits.few_attributes tail block at held;
    attribute_count = read.attribute_count ∙ attribute_count_back s fits.few_inputs fits.few_attributes tail block at held;
    inputs = read.inputs ∙ inputs_read;
    attributes = read.attributes ∙ attributes-read;
  }
