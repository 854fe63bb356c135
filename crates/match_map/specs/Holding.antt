-- When a map holds a match, whatever its number of places.
-- Assumes nothing.
use Rattle.std.specs.Prelude.{Bool, ◌&&◌, ◌||◌, List, ℕ, ◌*◌, ◌/◌, ◌≤◌, eqb, ltb, length}
use Rattle.definitions.specs.Lists.{all_below}
use Rattle.definitions.specs.Fields.{u16_at}
use Rattle.definitions.specs.Graph.{unused_place, Graph}
use Rattle.definitions.specs.Rule.{side_capacity, source_count, Rule}
use Rattle.definitions.specs.Match.{is_match}
use Rattle.definitions.specs.Operations.{images_in}

-- a place has two bytes
abbrev pub places_in : List ℕ → ℕ
places_in map = length map / 2

-- the images in the places of the source vertices are a match, and 65535 stands in the others
unfoldable pub is_map_of : Graph → Rule → ℕ → List ℕ → Bool
is_map_of g r places map =
    is_match g r (images_in map (length r.source))
    && all_below (λ j. ltb j (length r.source) || eqb (u16_at map (2 * j)) unused_place) places

-- every source vertex has a place, and there are no more places than images can be made
pub record MapFits (rule map : List ℕ) : Type 0 where
  pub enough : source_count rule ≤ places_in map
  pub few : places_in map ≤ side_capacity
