-- What is known of a map that is a match, and of a vertex that may be asked about.
-- Assumes nothing.
use mathlib.Core.Path.{◌≡◌}
use mathlib.Core.Bool.{true, not, ◌||◌}
use mathlib.Core.List.{List}
use Prim.Native.Nat.{ℕ, ◌*◌, ◌<◌}
use native.Mathlib.Omega.{arith}
use borrow.Author.Tests.{ltb-true}
use lib.Dec.{eqb, ltb}
use lib.ListN.{length}
use Rattle.definitions.specs.Lists.{all_below}
use Rattle.definitions.specs.Fields.{u16_at}
use Rattle.definitions.specs.Graph.{unused_place, slot_count, graph_of}
use Rattle.definitions.specs.Rule.{source_count, rule_of, is_rule_input}
use Rattle.definitions.specs.Match.{image_of, Match, is_match}
use Rattle.definitions.specs.Operations.{map_places, images_in}
use Rattle.definitions.specs.ReadElsewhere.{is_match_map, is_inner}
use Rattle.laws.proofs.Lists.{and_left}
use Rattle.laws.proofs.Graph.{length-slots}
use Rattle.laws.proofs.Rule.{length-source}
use Rattle.laws.proofs.Match.{images-at, image-inside}
use Rattle.theory.proofs.Match.{test-sound}

module _ (graph rule map : List ℕ) (vertex : ℕ) where
  abbrev images : List ℕ
  images = images_in map (source_count rule)

  pub asked_match : is_match_map graph rule map ≡ true → Match (graph_of graph) (rule_of rule) images
  unfolding is_match_map
  asked_match t = test-sound (graph_of graph) (rule_of rule) images
      (and_left (is_match (graph_of graph) (rule_of rule) images)
      (all_below (λ j. ltb j (source_count rule) || eqb (u16_at map (2 * j)) unused_place) map_places) t)

  pub asked_vertex : is_inner (rule_of rule) vertex ≡ true → vertex < source_count rule
  unfolding is_inner
  asked_vertex t = rw (length-source rule) at (ltb-true vertex (length (rule_of rule).source)
      (and_left (ltb vertex (length (rule_of rule).source)) (not (is_rule_input (rule_of rule) vertex)) t))

  -- the number that the map has for the vertex is its image, which is a slot
  module _ (inside : vertex < source_count rule) where
    pub asked_image : image_of images vertex ≡ u16_at map (2 * vertex)
    unfolding image_of
    asked_image = images-at map (source_count rule) vertex unused_place inside

    pub asked_slot : Match (graph_of graph) (rule_of rule) images → u16_at map (2 * vertex) < slot_count graph
    asked_slot m = omega (
      arith,
      asked_image,
      image-inside (graph_of graph) (rule_of rule) images vertex m (rw (length-source rule) inside),
      length-slots graph,
    )
