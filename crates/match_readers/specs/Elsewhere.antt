-- "Answer from the stored count and the rule alone": what the function that gets these two, and not the graph, is proved to answer.
-- Assumes nothing.
use Rattle.std.specs.Prelude.{◌≡◌, Bool, List, ℕ, ltb}
use Rattle.definitions.specs.Graph.{Graph, true_count}
use Rattle.definitions.specs.Rule.{Rule}
use Rattle.definitions.specs.Match.{image_of, Match, places_of}
use Rattle.definitions.specs.ReadElsewhere.{is_read_elsewhere}

-- the answer for source vertex j of a rule and a count, whether j is interior, an output or a Const
pub record ToldByCount (r : Rule) (j count : ℕ) (answer : Bool) : Type 0 where
  -- the count is above the number of source input places that name the vertex
  pub above : answer ≡ ltb (places_of r j) count
  -- in every graph, for every match of the rule: where the image of j has that count, the answer is whether it is read elsewhere
  pub means : (g : Graph) (images : List ℕ) → Match g r images → true_count g (image_of images j) ≡ count
      → answer ≡ is_read_elsewhere g r images (image_of images j)
