-- The same bytes by a side as the code has it, and by the tables of numbers.
-- Assumes nothing.
use Rattle.std.specs.Prelude.{List, ℕ, ◌+◌, ◌*◌, ◌≤◌}
use Rattle.definitions.specs.Fields.{byte_at}
use Rattle.definitions.specs.Rule.{target_base, source_count, rule_output_count, node_count}
use Rattle.definitions.specs.VariadicBlock.{expanded_limit}
use Rattle.variadic_layout.specs.declared.Part.{Part}
use Rattle.variadic_layout.specs.Bytes.{number_from, place_number, output_byte, field_number, record_byte, header_bytes}
use Rattle.variadic_layout.specs.Written.{CopyOf, CopiesOf, Numbers, OutputsOf}

module _ (block : List ℕ) (part : Part) (inputs numbers : List ℕ) where
  abbrev pub part_place : ℕ → ℕ → ℕ
  part_place index p =
      place_number block part.side.first part.side.base part.split (number_from inputs part.inputs) (number_from numbers part.count)
      index p

  abbrev pub part_output : ℕ → ℕ → ℕ
  part_output at i =
      output_byte block part.side.first part.side.base part.split (number_from inputs part.inputs) (number_from numbers part.count)
      at i

  abbrev pub part_field : ℕ → ℕ → ℕ → ℕ
  part_field n c i =
      field_number block part.side.first part.side.base part.split (number_from inputs part.inputs) (number_from numbers part.count)
      part.side.tuple n c i

  abbrev pub part_record : ℕ → ℕ → ℕ → ℕ
  part_record n c b =
      record_byte block part.side.first part.side.base part.split (number_from inputs part.inputs) (number_from numbers part.count)
      part.side.tuple n c b

-- the tables of numbers that a side needs, and its place numbers are bytes
pub record Numbered (part : Part) (inputs numbers : List ℕ) : Type 0 where
  pub given : Numbers inputs part.inputs
  pub own : Numbers numbers part.count
  pub split : part.split ≤ expanded_limit

abbrev pub PartCopy : List ℕ → Part → ℕ → ℕ → Type 0
PartCopy block part n c = CopyOf block part.side.first part.side.base part.side.tuple n c

abbrev pub PartCopies : List ℕ → Part → ℕ → List ℕ → Type 0
PartCopies block part n copies = CopiesOf block part.side.first part.side.base part.side.tuple n copies part.count

abbrev pub PartOutputs : List ℕ → Part → ℕ → Type 0
PartOutputs block part at = OutputsOf block part.side.first part.side.base at

-- the header, from both sides
abbrev pub part_header : List ℕ → ℕ → (source target : Part) → (inputs numbers : List ℕ) → List ℕ
part_header block n source target inputs numbers =
    header_bytes source.count target.count (rule_output_count block) (node_count block * (n + 1))
    (part_output block source inputs inputs 10 0) (part_output block source inputs inputs 10 1)
    (part_output block target inputs numbers 12 0) (part_output block target inputs numbers 12 1)

-- ---- the two sides

unfoldable pub source_part : List ℕ → ℕ → Part
source_part block sources =
    record { side = record { first = 0; base = 0; tuple = byte_at block 14 }; split = 0; inputs = sources; count = sources }

unfoldable pub target_part : List ℕ → ℕ → ℕ → Part
target_part block sources targets = record {
  side = record { first = source_count block; base = target_base; tuple = byte_at block 15 };
  split = expanded_limit;
  inputs = sources;
  count = targets;
}
