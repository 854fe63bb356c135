-- Request 4/13, the squeeze: "vertices move to the lowest slots in their old order, all inputs and outputs follow, and a lent list of N
-- 16-bit numbers says where each old slot went (65535 for Empty)".
-- Assumes nothing.
use Rattle.std.specs.Prelude.{cond, List, [], ◌∷◌, map, ℕ, ◌*◌, eqb, ltb, length, get_or}
use Rattle.definitions.specs.Lists.{tabulate, filter, concat_map, position, range}
use Rattle.definitions.specs.Fields.{u16_bytes}
use Rattle.definitions.specs.Reply.{Reply, done, bad_moves_length, refused, first_refusal, where_done}
use Rattle.definitions.specs.Graph.{unused_place, slot_count, Slot, Graph, empty_slot, renamed, graph_of, slot_of, is_vertex, graph_block, graph_reply}

-- the slots that are not Empty, lowest first
unfoldable pub vertices_of : Graph → List ℕ
vertices_of g = filter (is_vertex g) (range 0 (length g.slots))

-- where slot v goes: a vertex to its place among the vertices
unfoldable pub moved_to : Graph → ℕ → ℕ
moved_to g v = cond (is_vertex g v) (position v (vertices_of g)) unused_place

-- slot k of the squeezed table: the vertex that goes there, and Empty behind the last
unfoldable pub squeezed_slot : Graph → ℕ → Slot
squeezed_slot g k =
    let vertices = vertices_of g in
    cond (ltb k (length vertices)) (renamed (moved_to g) (slot_of g (get_or vertices k unused_place))) empty_slot

unfoldable pub squeeze : Graph → Graph
squeeze g = record { slots = tabulate (length g.slots) (squeezed_slot g); outputs = map (moved_to g) g.outputs }

-- the list: for each old slot, its new number
unfoldable pub moves_block : Graph → List ℕ
moves_block g = concat_map u16_bytes (tabulate (length g.slots) (moved_to g))

-- the operation: "bad graph as before, then 40 when the list is not 2N bytes"
unfoldable pub moves_reply : List ℕ → List ℕ → Reply
moves_reply graph moves = cond (eqb (length moves) (2 * slot_count graph)) done (refused bad_moves_length)

unfoldable pub squeeze_reply : List ℕ → List ℕ → Reply
squeeze_reply graph moves = first_refusal (graph_reply graph ∷ moves_reply graph moves ∷ [])

-- what stands in the lent graph and in the lent list at the return
unfoldable pub squeeze_graph : List ℕ → List ℕ → List ℕ
squeeze_graph graph moves = where_done (squeeze_reply graph moves) (graph_block (squeeze (graph_of graph))) graph

unfoldable pub squeeze_moves : List ℕ → List ℕ → List ℕ
squeeze_moves graph moves = where_done (squeeze_reply graph moves) (moves_block (graph_of graph)) moves
