-- A listing is its first line, the lines of the slots, and its last line.
-- Assumes nothing.
use mathlib.Core.Path.{◌≡◌, sym, ap, ◌∙◌}
use mathlib.Core.List.{List, [], ◌∷◌, ◌++◌, map, append_assoc}
use Prim.Native.Nat.{ℕ}
use lib.IntN.{pos}
use lib.ListN.{length}
use Rattle.definitions.specs.Lists.{filter, range, concat_map}
use Rattle.definitions.specs.Graph.{slot_count, Graph, is_vertex, graph_of}
use Rattle.definitions.specs.Numerals.{numeral}
use Rattle.definitions.specs.Sheet.{opening, out_word, spaced, line_text, printed}
use Rattle.definitions.specs.Listing.{line_of, sheet_of, listing}
use Rattle.laws.proofs.Graph.{length-slots}
use Rattle.listing_write.specs.Parts.{head_text, slots_text, outputs_text}
use Rattle.listing_write.proofs.Slots.{slots-lines}

three : (a b l o s n : List ℕ) → a ++ b ++ 10 ∷ l ++ o ++ s ++ n ≡ a ++ b ++ 10 ∷ [] ++ l ++ (o ++ s ++ n)
three a b l o s n = simp append_assoc

parts_of : (g : Graph) → listing g ≡ head_text (length g.slots) ++ slots_text g (length g.slots) ++ outputs_text g
unfolding listing printed sheet_of head_text outputs_text
parts_of g =
    let n = length g.slots in
    three opening (numeral (pos n)) (concat_map line_text (map (line_of g) (filter (is_vertex g) (range 0 n)))) out_word
    (spaced (map pos g.outputs)) (10 ∷ [])
    ∙ ap (λ (l : List ℕ). head_text n ++ l ++ outputs_text g) (sym (slots-lines g n))

pub listing_parts : (block : List ℕ)
    → listing (graph_of block) ≡ head_text (slot_count block) ++ slots_text (graph_of block) (slot_count block) ++ outputs_text (graph_of block)
listing_parts block =
    parts_of (graph_of block)
    ∙ ap (λ (n : ℕ). head_text n ++ slots_text (graph_of block) n ++ outputs_text (graph_of block)) (length-slots block)
