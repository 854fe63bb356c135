-- The form of a listing: what can follow, from its first byte on.
-- Assumes nothing.
use Rattle.std.specs.Prelude.{Bool, cond, List, [], ◌∷◌, ℕ, zero, suc, ◌-◌, eqb, ltb, ℤ, pos, negsuc}
use Rattle.definitions.specs.Operators.{kind_const, kind_variable, kind_call, kind_tuple, kind_proj, operator_count, counts_of, row_of}
use Rattle.definitions.specs.Lists.{within}
use Rattle.definitions.specs.Numerals.{Field}
use Rattle.definitions.specs.Sheet.{Line, Sheet, size_field, slot_field, operator_field, place_field, attribute_field, opening}
use Rattle.listing.specs.Typing.{nothing}
use Rattle.listing.specs.Forms.{Form, ended, byte, choice, number}

-- the number of a field that has none below 0
unfoldable pub magnitude : ℤ → ℕ
magnitude (pos n) = n
magnitude (negsuc n) = 0

-- the counts of a kind, and for a Call of its operator
unfoldable pub least_inputs : ℕ → ℕ → ℕ
least_inputs kind operator = cond (eqb kind kind_call) (counts_of operator).inputs (row_of kind).least

unfoldable pub most_inputs : ℕ → ℕ → ℕ
most_inputs kind operator = cond (eqb kind kind_call) (counts_of operator).inputs (row_of kind).greatest

unfoldable pub attribute_count : ℕ → ℕ → ℕ
attribute_count kind operator = cond (eqb kind kind_call) (counts_of operator).attributes (row_of kind).attributes

-- an operator from 1 to 14 for a Call, and 0 for the other kinds
unfoldable pub operator_of : ℕ → ℕ → Bool
operator_of kind operator = cond (eqb kind kind_call) (within 1 operator operator_count) (eqb operator 0)

module _ {A : Type 0} where
  unfoldable pub literal : List ℕ → Form A → Form A
  literal [] f = f
  literal (c ∷ cs) f = byte c (literal cs f)

  -- from `least` to `most` numbers, a space before each, and the byte `stop`
  unfoldable pub spaced_form : ℕ → ℕ → Field → ℕ → (List ℤ → Form A) → Form A
  spaced_form least zero field stop f = byte stop (f [])
  spaced_form zero (suc most) field stop f =
      choice stop (f []) (byte 32 (number field nothing (λ z. spaced_form zero most field stop (λ zs. f (z ∷ zs)))))
  spaced_form (suc least) (suc most) field stop f =
      byte 32 (number field nothing (λ z. spaced_form least most field stop (λ zs. f (z ∷ zs))))

  -- the same with spaces only between the numbers: none at all, or at least one
  unfoldable pub joined_form : ℕ → ℕ → Field → ℕ → (List ℤ → Form A) → Form A
  joined_form least zero field stop f = byte stop (f [])
  joined_form least (suc most) field stop f =
      number field nothing (λ z. spaced_form (least - 1) most field stop (λ zs. f (z ∷ zs)))

  -- const, call, variable, tuple, proj
  unfoldable pub word_form : (ℕ → Form A) → Form A
  word_form f =
      choice 99
      (choice 111 (literal (110 ∷ 115 ∷ 116 ∷ []) (f kind_const)) (literal (97 ∷ 108 ∷ 108 ∷ []) (f kind_call)))
      (choice 118 (literal (97 ∷ 114 ∷ 105 ∷ 97 ∷ 98 ∷ 108 ∷ 101 ∷ []) (f kind_variable))
      (choice 116 (literal (117 ∷ 112 ∷ 108 ∷ 101 ∷ []) (f kind_tuple))
      (literal (112 ∷ 114 ∷ 111 ∷ 106 ∷ []) (f kind_proj))))

  -- a space and `{`, and the attributes up to the line's end
  unfoldable pub attributes_form : ℕ → (List ℤ → Form A) → Form A
  attributes_form count f =
      byte 32 (byte 123 (joined_form count count attribute_field 125 (λ attributes. byte 10 (f attributes))))

  -- a line from behind its operator on
  unfoldable pub lists_form : ℕ → ℕ → (List ℤ → List ℤ → Form A) → Form A
  lists_form kind operator f =
      byte 32 (byte 91 (joined_form (least_inputs kind operator) (most_inputs kind operator) place_field 93
      (λ inputs. attributes_form (attribute_count kind operator) (f inputs))))

  -- only call has an operator number
  unfoldable pub operator_form : ℕ → (ℕ → Form A) → Form A
  operator_form kind f =
      cond (eqb kind kind_call) (byte 32 (number operator_field nothing (λ z. f (magnitude z)))) (f 0)

  -- a line from behind its slot's number on
  unfoldable pub line_form : ℕ → (Line → Form A) → Form A
  line_form slot f =
      byte 32 (word_form (λ kind. operator_form kind (λ operator. lists_form kind operator
      (λ inputs attributes. f (record { slot = slot; kind = kind; operator = operator; inputs = inputs; attributes = attributes })))))

  -- lines for slots from `from` on below `size`, as many as `left` at most, and the `o` of the line behind them
  unfoldable pub lines_form : ℕ → ℕ → ℕ → (List Line → Form A) → Form A
  lines_form zero from size f = byte 111 (f [])
  lines_form (suc left) from size f =
      cond (ltb from size)
      (choice 111 (f []) (number (slot_field from size) nothing
      (λ z. line_form (magnitude z) (λ l. lines_form left (suc (magnitude z)) size (λ lines. f (l ∷ lines))))))
      (byte 111 (f []))

-- the rest of the line of outputs
unfoldable pub outputs_form : ℕ → List Line → Form Sheet
outputs_form size lines =
    literal (117 ∷ 116 ∷ []) (spaced_form 1 4 place_field 10 (λ outputs. ended (record { size = size; lines = lines; outputs = outputs })))

unfoldable pub sheet_form : Form Sheet
sheet_form =
    literal opening (number size_field nothing (λ z. byte 10 (lines_form (magnitude z) 0 (magnitude z) (outputs_form (magnitude z)))))
