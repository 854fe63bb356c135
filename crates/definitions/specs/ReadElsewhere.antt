-- Request 6/13: "Given a sound version 2 graph, a rule, its match and one non-input source vertex, answer from the stored count and the rule
-- alone: yes exactly when the image is a graph output or is read by something other than the image of a non-input source vertex."
-- Assumes nothing.
use Rattle.std.specs.Prelude.{Bool, cond, not, ◌&&◌, ◌||◌, ℕ, ◌*◌, eqb, ltb, length, Ok, Err}
use mathlib.Core.List.{List, Memᴰ}
use Rattle.definitions.specs.Lists.{all_below, any_below, member}
use Rattle.definitions.specs.Fields.{u16_at}
use Rattle.definitions.specs.Reply.{Reply, not_amatch, no_such_vertex, answered, refused}
use Rattle.definitions.specs.Paths.{Reads}
use Rattle.definitions.specs.Graph.{unused_place, Graph, graph_of, inputs_of}
use Rattle.definitions.specs.Rule.{Rule, source_count, rule_of, is_rule_input}
use Rattle.definitions.specs.Match.{image_of, inner_images, is_match}
use Rattle.definitions.specs.Operations.{map_places, images_in, blocks_reply}

-- The meaning, for the match `images` and the image v: it "is a graph output or is read by something other than the image of a non-input
-- source vertex". So a rule input's image that reads it is elsewhere, too.
pub data ReadElsewhere (g : Graph) (r : Rule) (images : List ℕ) (v : ℕ) : Type 0 where
  output : Memᴰ v g.outputs → ReadElsewhere g r images v
  reader : (w : ℕ) → Reads (inputs_of g) w v → (Memᴰ w (inner_images r images) → ⊥) → ReadElsewhere g r images v

-- What computes, and is proved to be the meaning.
unfoldable pub is_read_elsewhere : Graph → Rule → List ℕ → ℕ → Bool
is_read_elsewhere g r images v =
    member v g.outputs
    || any_below (λ w. member v (inputs_of g w) && not (member w (inner_images r images))) (length g.slots)

-- ---- the operation: 1, the graph's faults, the rule's, 41, 42, or the answer

-- the map is "a match (any, with 65535 from S on)"
unfoldable pub is_match_map : List ℕ → List ℕ → List ℕ → Bool
is_match_map graph rule map =
    is_match (graph_of graph) (rule_of rule) (images_in map (source_count rule))
    && all_below (λ j. ltb j (source_count rule) || eqb (u16_at map (2 * j)) unused_place) map_places

-- "one non-input source vertex"
unfoldable pub is_inner : Rule → ℕ → Bool
is_inner r j = ltb j (length r.source) && not (is_rule_input r j)

-- the answer, once nothing is refused
unfoldable pub elsewhere_answer : List ℕ → List ℕ → List ℕ → ℕ → Bool
elsewhere_answer graph rule map vertex =
    let images = images_in map (source_count rule) in
    is_read_elsewhere (graph_of graph) (rule_of rule) images (image_of images vertex)

-- once the blocks are good: "then 41 when the map isn't a match [...], 42 when it is no such vertex"
unfoldable pub asked_reply : List ℕ → List ℕ → List ℕ → ℕ → Reply
asked_reply graph rule map vertex =
    cond (is_match_map graph rule map)
    (cond (is_inner (rule_of rule) vertex) (answered (elsewhere_answer graph rule map vertex)) (refused no_such_vertex))
    (refused not_amatch)

-- nothing is written, whatever the reply
unfoldable pub elsewhere_reply : List ℕ → List ℕ → List ℕ → ℕ → Reply
elsewhere_reply graph rule map vertex = elim (blocks_reply graph rule map) [
  | Err why ↦ Err why
  | Ok value ↦ asked_reply graph rule map vertex
]
