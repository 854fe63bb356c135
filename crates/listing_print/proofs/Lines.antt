-- A line by what is read of its slot.
-- Assumes nothing.
use mathlib.Core.Path.{◌≡◌, sym}
use mathlib.Core.List.{List, [], ◌∷◌, ◌++◌, map}
use Prim.Native.Nat.{ℕ}
use lib.IntN.{ℤ, pos}
use Rattle.definitions.specs.Fields.{signed}
use Rattle.definitions.specs.Graph.{Graph, slot_of, inputs_of}
use Rattle.definitions.specs.Numerals.{numeral}
use Rattle.definitions.specs.Sheet.{word, joined, operator_text, line_text}
use Rattle.definitions.specs.Listing.{line_of}

-- the slot, the word and the operator; then the inputs, the attributes, and what closes the line
abbrev pub start_text : ℕ → ℕ → ℕ → List ℕ
start_text slot kind operator = numeral (pos slot) ++ 32 ∷ word kind ++ operator_text kind operator

pub line_parts : (g : Graph) (k : ℕ) {kind operator : ℕ} {inputs attributes : List ℤ} → kind ≡ (slot_of g k).kind
    → operator ≡ (slot_of g k).operator → inputs ≡ map pos (inputs_of g k) → attributes ≡ map signed (slot_of g k).attributes
    → line_text (line_of g k)
    ≡ start_text k kind operator ++ 32 ∷ 91 ∷ joined inputs ++ 93 ∷ 32 ∷ 123 ∷ joined attributes ++ 125 ∷ 10 ∷ []
unfolding line_text line_of
line_parts g k e f ins outs =
    λ i. line_text (record { slot = k; kind = sym e i; operator = sym f i; inputs = sym ins i; attributes = sym outs i })
