-- Request 7/13: a sheet is what a listing says, and `printed` is its text. "Whole, the last slot Empty":
--     graph 3
--     0 variable [] {1 3 8 8 1}
--     1 call 7 [0] {}
--     out 1
-- Assumes nothing.
use Rattle.std.specs.Prelude.{◌≡◌, true, cond, List, [], ◌∷◌, ◌++◌, ℕ, ◌-◌, ◌^◌, suc, ◌≤◌, ◌<◌, eqb, ℤ, pos, length, get_or}
use Rattle.definitions.specs.Lists.{within, all, concat_map}
use Rattle.definitions.specs.Operators.{kind_const, kind_call, kind_proj, operator_count, shape_fits}
use Rattle.definitions.specs.Graph.{slot_limit, output_limit}
use Rattle.definitions.specs.Numerals.{Field, in_field, numeral}

pub record Line : Type 0 where
  pub slot : ℕ
  pub kind : ℕ
  pub operator : ℕ
  pub inputs : List ℤ
  pub attributes : List ℤ

-- N, the lines of the slots, and the outputs
pub record Sheet : Type 0 where
  pub size : ℕ
  pub lines : List Line
  pub outputs : List ℤ

-- ---- the fields: "each number within its field"; of N, slots and operators SheetFits says the same bounds below, and these are for reading

abbrev field : ℕ → ℕ → ℕ → Field
field low high below = record { low = low; high = high; below = below }

-- "N from 1 to 512"
abbrev pub size_field : Field
size_field = field 1 slot_limit 0

-- a slot's number: from the one behind the last line's slot on, and below N
abbrev pub slot_field : ℕ → ℕ → Field
slot_field from size = field from (size - 1) 0

abbrev pub operator_field : Field
operator_field = field 1 operator_count 0

-- an input or an output: 16 bits
abbrev pub place_field : Field
place_field = field 0 (2 ^ 16 - 1) 0

-- 32 bits, signed
abbrev pub attribute_field : Field
attribute_field = field 0 (2 ^ 31 - 1) (2 ^ 31)

-- ---- the shape: "slots ascending below N, counts by document 01's tables, 1 to 4 outputs"

pub record LineFits (l : Line) : Type 0 where
  -- no Empty slot has a line
  pub kind : within kind_const l.kind kind_proj ≡ true
  -- the operator and the counts follow the tables
  pub shape : shape_fits l.kind l.operator (length l.inputs) (length l.attributes) ≡ true
  pub inputs : all (in_field place_field) l.inputs ≡ true
  pub attributes : all (in_field attribute_field) l.attributes ≡ true

-- slots ascend from `from` on, and are below `size`
unfoldable pub LinesFit : ℕ → ℕ → List Line → Type 0
LinesFit from size [] = Unit {0}
LinesFit from size (l ∷ lines) = (from ≤ l.slot) × (l.slot < size) × LineFits l × LinesFit (suc l.slot) size lines

pub record SheetFits (s : Sheet) : Type 0 where
  pub size : within 1 s.size slot_limit ≡ true
  pub lines : LinesFit 0 s.size s.lines
  pub count : within 1 (length s.outputs) output_limit ≡ true
  pub outputs : all (in_field place_field) s.outputs ≡ true

-- ---- its text

-- the words of the kinds 0 to 5: Empty has none; const, variable, call, tuple, proj
unfoldable pub words : List (List ℕ)
words =
    []
    ∷ (99 ∷ 111 ∷ 110 ∷ 115 ∷ 116 ∷ [])
    ∷ (118 ∷ 97 ∷ 114 ∷ 105 ∷ 97 ∷ 98 ∷ 108 ∷ 101 ∷ [])
    ∷ (99 ∷ 97 ∷ 108 ∷ 108 ∷ [])
    ∷ (116 ∷ 117 ∷ 112 ∷ 108 ∷ 101 ∷ [])
    ∷ (112 ∷ 114 ∷ 111 ∷ 106 ∷ [])
    ∷ []

unfoldable pub word : ℕ → List ℕ
word kind = get_or words kind []

-- a space before each number
unfoldable pub spaced : List ℤ → List ℕ
spaced numbers = concat_map (λ z. 32 ∷ numeral z) numbers

-- single spaces between the numbers
unfoldable pub joined : List ℤ → List ℕ
joined [] = []
joined (z ∷ zs) = numeral z ++ spaced zs

-- "only call has an operator number"
unfoldable pub operator_text : ℕ → ℕ → List ℕ
operator_text kind operator = cond (eqb kind kind_call) (32 ∷ numeral (pos operator)) []

-- `SLOT WORD [inputs] {attributes}`, for a call `SLOT call OPERATOR [inputs] {attributes}`, and byte 10
unfoldable pub line_text : Line → List ℕ
line_text l =
    numeral (pos l.slot) ++ 32 ∷ word l.kind ++ operator_text l.kind l.operator
    ++ 32 ∷ 91 ∷ joined l.inputs ++ 93 ∷ 32 ∷ 123 ∷ joined l.attributes ++ 125 ∷ 10 ∷ []

-- `graph `
unfoldable pub opening : List ℕ
opening = 103 ∷ 114 ∷ 97 ∷ 112 ∷ 104 ∷ 32 ∷ []

-- `out`
unfoldable pub out_word : List ℕ
out_word = 111 ∷ 117 ∷ 116 ∷ []

unfoldable pub printed : Sheet → List ℕ
printed s =
    opening ++ numeral (pos s.size) ++ 10 ∷ concat_map line_text s.lines
    ++ out_word ++ spaced s.outputs ++ 10 ∷ []
