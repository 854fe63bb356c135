-- The parts of a listing: its first line, the lines of the slots, slot by slot, and its last line.
-- Assumes nothing.
use Rattle.std.specs.Prelude.{cond, List, [], ◌∷◌, ◌++◌, map, ℕ, zero, suc, pos}
use Rattle.definitions.specs.Graph.{Graph, is_vertex}
use Rattle.definitions.specs.Numerals.{numeral}
use Rattle.definitions.specs.Sheet.{opening, out_word, spaced, line_text}
use Rattle.definitions.specs.Listing.{line_of}

-- `graph N`
unfoldable pub head_text : ℕ → List ℕ
head_text n = opening ++ numeral (pos n) ++ 10 ∷ []

-- `out` and the outputs
unfoldable pub outputs_text : Graph → List ℕ
outputs_text g = out_word ++ spaced (map pos g.outputs) ++ 10 ∷ []

-- the line of slot k; an Empty one has none
unfoldable pub slot_text : Graph → ℕ → List ℕ
slot_text g k = cond (is_vertex g k) (line_text (line_of g k)) []

-- the lines of the slots below n
unfoldable pub slots_text : Graph → ℕ → List ℕ
slots_text g zero = []
slots_text g (suc n) = slots_text g n ++ slot_text g n
