-- The first four of six places are those of a header.
use mathlib.Core.Path.{◌≡◌, refl, ap, ◌∙◌}
use mathlib.Core.List.{List, [], ◌∷◌}
use Prim.Native.Nat.{ℕ, ◌≤◌}
use native.Mathlib.Omega.{arith}
use lib.ListN.{length, get_or, take}
use lib.Seq.{length-take-le}
use Rattle.definitions.specs.Graph.{unused_place}
use Rattle.laws.proofs.Padded.{length-padded}
use Rattle.listing_lists.specs.Lists.{list_limit}
use Rattle.listing_lists.proofs.First.{take-padded}
use Rattle.listing_sheet.proofs.output_places.Goals as goal

four : (xs : List ℕ) → length xs ≡ 6 → get_or xs 0 0 ∷ get_or xs 1 0 ∷ get_or xs 2 0 ∷ get_or xs 3 0 ∷ [] ≡ take 4 xs
four (a ∷ b ∷ c ∷ d ∷ xs) size = refl
four [] size = absurd (omega arith)
four (a ∷ []) size = absurd (omega arith)
four (a ∷ b ∷ []) size = absurd (omega arith)
four (a ∷ b ∷ c ∷ []) size = absurd (omega arith)

pub returns : goal.returns
returns c = let front = take c.args.count c.args.words in
    let few : length front ≤ 4 = omega (arith, length-take-le c.args.count c.args.words (omega (arith, c.requires.words_len, c.requires.count_le_output_limit)), c.requires.count_le_output_limit) in
    four c.places_of-places.result (omega (arith, ap length c.places_of-places.ensures, length-padded unused_place list_limit front (omega arith)))
    ∙ ap (take 4) c.places_of-places.ensures ∙ take-padded unused_place 4 6 front (omega arith) few
