-- Checking, matching and rewriting: for any bytes, what is replied and what stands in the lent blocks at the return. Sweep, Squeeze, Import and
-- ReadElsewhere are files of their own.
-- Assumes nothing.
use Rattle.std.specs.Prelude.{cond, List, [], ◌∷◌, ℕ, ◌*◌, eqb, ℤ, length, Ok, Err}
use Rattle.std.proofs.Math.Option.{none, some}
use Rattle.definitions.specs.declared.Refusal.{Refusal}
use Rattle.definitions.specs.Lists.{tabulate, padded, concat_map}
use Rattle.definitions.specs.Fields.{u16_at, u16_bytes}
use Rattle.definitions.specs.Reply.{Reply, done, bad_map_length, no_match, no_result, no_room, new_cycle, refusal, refused, packed, first_refusal}
use Rattle.definitions.specs.Graph.{unused_place, Graph, graph_of, graph_block, graph_reply, has_cycle}
use Rattle.definitions.specs.Rule.{Rule, rule_of, rule_reply}
use Rattle.definitions.specs.Match.{read_attribute, least_match}
use Rattle.definitions.specs.Rewriting.{target_results, has_room, new_graph}

-- the reply, and the bytes of the graph and of the map as the operation leaves them
pub record Outcome : Type 0 where
  pub reply : Reply
  pub graph : List ℕ
  pub map : List ℕ

abbrev pub outcome : Reply → List ℕ → List ℕ → Outcome
outcome reply graph map = record { reply = reply; graph = graph; map = map }

-- what the caller has at the return: the reply as the one number that the C side gets, and the same bytes
pub record Returned : Type 0 where
  pub reply : ℕ
  pub graph : List ℕ
  pub map : List ℕ

abbrev pub at_return : ℕ → List ℕ → List ℕ → Returned
at_return reply graph map = record { reply = reply; graph = graph; map = map }

unfoldable pub returned : Outcome → Returned
returned o = at_return (packed o.reply) o.graph o.map

-- a map block holds sixteen 16-bit numbers: the images, and 65535 from S on
abbrev pub map_places : ℕ
map_places = 16

abbrev pub map_bytes : ℕ
map_bytes = 2 * map_places

unfoldable pub map_block : List ℕ → List ℕ
map_block images = concat_map u16_bytes (padded map_places unused_place images)

-- and this is how it is read: its first n numbers
unfoldable pub images_in : List ℕ → ℕ → List ℕ
images_in map n = tabulate n (λ j. u16_at map (2 * j))

unfoldable pub map_reply : List ℕ → Reply
map_reply map = cond (eqb (length map) map_bytes) done (refused bad_map_length)

-- the replies about the lent blocks: 1 about the map, then the graph's faults, then the rule's
unfoldable pub blocks_reply : List ℕ → List ℕ → List ℕ → Reply
blocks_reply graph rule map = first_refusal (map_reply map ∷ graph_reply graph ∷ rule_reply rule ∷ [])

-- checking a graph gives graph_reply, and checking a rule rule_reply; both change nothing

-- matching, once the blocks are sound: 4, or the map of the least match from `start`
unfoldable pub matched : List ℕ → List ℕ → ℕ → List ℕ → Outcome
matched graph rule start map = elim (least_match (graph_of graph) (rule_of rule) start) [
  | none ↦ outcome (refused no_match) graph map
  | some found ↦ outcome done graph (map_block found)
]

unfoldable pub find_match : List ℕ → List ℕ → ℕ → List ℕ → Outcome
find_match graph rule start map = elim (blocks_reply graph rule map) [
  | Ok value ↦ matched graph rule start map
  | Err why ↦ outcome (Err why) graph map
]

-- what a rewriting at one match comes to: the new table, or the first of the refusals 5, 6 and 7 that applies
pub data Rewritten : Type 0 where
  accepted : Graph → Rewritten
  turned_down : Refusal → Rewritten

unfoldable pub rewritten_with : Graph → Rule → List ℕ → List (List ℤ) → Rewritten
rewritten_with g r found values =
    let new = new_graph g r found values in
    cond (has_room g r found) (cond (has_cycle new) (turned_down (refusal new_cycle)) (accepted new)) (turned_down (refusal no_room))

unfoldable pub rewritten : Graph → Rule → List ℕ → Rewritten
rewritten g r found = elim (target_results (read_attribute g found) r.target) [
  | none ↦ turned_down (refusal no_result)
  | some values ↦ rewritten_with g r found values
]

-- rewriting at the least match, once the blocks are sound; no other match is tried
unfoldable pub replaced : List ℕ → List ℕ → List ℕ → List ℕ → Outcome
replaced graph rule map found = elim (rewritten (graph_of graph) (rule_of rule) found) [
  | turned_down why ↦ outcome (Err why) graph map
  | accepted new ↦ outcome done (graph_block new) (map_block found)
]

unfoldable pub rewrite : List ℕ → List ℕ → ℕ → List ℕ → Outcome
rewrite graph rule start map = elim (blocks_reply graph rule map) [
  | Err why ↦ outcome (Err why) graph map
  | Ok value ↦ elim (least_match (graph_of graph) (rule_of rule) start) [
    | none ↦ outcome (refused no_match) graph map
    | some found ↦ replaced graph rule map found
  ]
]
