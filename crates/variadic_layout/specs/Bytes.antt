-- The bytes of the made layout, of either side. A side is as variadic_order has it: the record of its vertex u is record first + u of the
-- block, and an input place from base on names vertex place - base of the side, and a lower one a rule input. In the made layout the side's
-- vertices have the place numbers from `split` on. `input` numbers the copies of rule inputs, and `own` those of the side.
-- Assumes nothing.
use Rattle.std.specs.Prelude.{cond, List, [], ◌∷◌, ℕ, ◌+◌, ◌-◌, ◌/◌, ◌%◌, eqb, ltb, get_or}
use Rattle.definitions.specs.Fields.{byte_at}
use Rattle.definitions.specs.Rule.{rule_letter, rule_output_count, vertex_at}
use Rattle.definitions.specs.Variadic.{original, copy_index}
use Rattle.definitions.specs.VariadicBlock.{template_mark}
use Rattle.rule_fields.specs.Fixed.{expanded_version}
use Rattle.variadic_order.specs.Sides.{side_copy, field_count, field_place, field_index}
use Rattle.variadic_terms.specs.Terms.{term_of}

-- what an unused place holds
abbrev pub unused_byte : ℕ
unused_byte = 255

-- the number of copy c, where numbers[c] is one more than that, and 0 for a copy that has none: it has the number behind the last
unfoldable pub number_from : List ℕ → ℕ → ℕ → ℕ
number_from numbers count c = cond (eqb (get_or numbers c 0) 0) count (get_or numbers c 0 - 1)

-- byte b of the block's record of which copy c is made
abbrev pub block_byte : List ℕ → (first c : ℕ) → ℕ → ℕ
block_byte block first c b = byte_at block (vertex_at (first + original c) + b)

-- the kind without its mark, the operator, and the numbers of fields and of attributes
unfoldable pub head_byte : List ℕ → (first base tuple n c : ℕ) → ℕ → ℕ
head_byte block first base tuple n c b =
    cond (eqb b 0) (block_byte block first c 0 % template_mark)
    (cond (eqb b 2) (field_count block first base tuple n c) (block_byte block first c b))

module _ (block : List ℕ) (first base split : ℕ) (input own : ℕ → ℕ) where
  -- the number by which the made layout names what place number p of the block names where the index is i
  unfoldable pub place_number : ℕ → ℕ → ℕ
  place_number i p = cond (ltb p base) (input (side_copy block 0 i p)) (split + own (side_copy block first i (p - base)))

  -- output place i, of those that the block has from byte `at` on; an output is no copy of a template, so its index is 0
  unfoldable pub output_byte : ℕ → ℕ → ℕ
  output_byte at i = cond (ltb i (rule_output_count block)) (place_number 0 (byte_at block (at + i))) unused_byte

  module _ (tuple n c : ℕ) where
    -- what field i of copy c names
    unfoldable pub field_number : ℕ → ℕ
    field_number i = place_number (field_index block first base tuple n c i) (field_place block first base tuple n c i)

    -- byte b of the record of copy c; the attribute places are not used
    unfoldable pub record_byte : ℕ → ℕ
    record_byte b =
        cond (ltb b 4) (head_byte block first base tuple n c b) (cond (ltb (b - 4) (field_count block first base tuple n c)) (field_number (b - 4)) unused_byte)

-- the node of attribute i of copy c, and byte b of its row in the table
unfoldable pub attribute_term : List ℕ → (first n c : ℕ) → ℕ → ℕ
attribute_term block first n c i = term_of block n (block_byte block first c (10 + i)) (copy_index c)

unfoldable pub table_byte : List ℕ → (first n c : ℕ) → ℕ → ℕ
table_byte block first n c b =
    cond (ltb (b / 2) (block_byte block first c 3))
    (cond (eqb (b % 2) 0) (attribute_term block first n c (b / 2) % 256) (attribute_term block first n c (b / 2) / 256)) unused_byte

-- the header, with the numbers of source vertices, target vertices, outputs and nodes, and the output places
unfoldable pub header_bytes : (sources targets outputs nodes : ℕ) → (first second first_target second_target : ℕ) → List ℕ
header_bytes sources targets outputs nodes first second first_target second_target =
    76 ∷ 71 ∷ rule_letter ∷ 0 ∷ expanded_version ∷ 0 ∷ sources ∷ targets ∷ outputs ∷ nodes % 256
    ∷ first ∷ second ∷ first_target ∷ second_target ∷ nodes / 256 ∷ 0 ∷ []
