-- Request 4/13, the sweep: "every vertex from which no graph output is reached becomes Empty, except Variables, which the phone feeds by
-- number". A vertex that an output names reaches itself, and stays.
-- Assumes nothing.
use Rattle.std.specs.Prelude.{◌≡◌, Bool, true, false, cond, not, ◌&&◌, List, ℕ, length}
use Rattle.definitions.specs.Lists.{tabulate}
use Rattle.definitions.specs.Reply.{where_done}
use Rattle.definitions.specs.Paths.{ReachesOne, is_marked, reaching}
use Rattle.definitions.specs.Graph.{Slot, Graph, empty_slot, graph_of, slot_of, inputs_of, is_vertex, is_variable, graph_block, graph_reply}

-- The meaning: v is a vertex and no Variable, and has no path to a vertex that an output names.
pub record Unneeded (g : Graph) (v : ℕ) : Type 0 where
  pub vertex : is_vertex g v ≡ true
  pub other : is_variable g v ≡ false
  pub unreached : ReachesOne (inputs_of g) g.outputs v → ⊥

-- What computes, and is proved to be the meaning: the marks of the slots that have such a path, made once for all slots.
unfoldable pub reaching_outputs : Graph → List Bool
reaching_outputs g = reaching (inputs_of g) (length g.slots) g.outputs

unfoldable pub is_unneeded : Graph → List Bool → ℕ → Bool
is_unneeded g marks v = is_vertex g v && not (is_variable g v) && not (is_marked marks v)

-- slot v of the swept table; every other slot is as it was, and so are the outputs
unfoldable pub swept_slot : Graph → List Bool → ℕ → Slot
swept_slot g marks v = cond (is_unneeded g marks v) empty_slot (slot_of g v)

unfoldable pub sweep : Graph → Graph
sweep g =
    let marks = reaching_outputs g in
    record { slots = tabulate (length g.slots) (swept_slot g marks); outputs = g.outputs }

-- the operation: the reply is the check's, and this stands in the lent graph at the return
unfoldable pub sweep_graph : List ℕ → List ℕ
sweep_graph graph = where_done (graph_reply graph) (graph_block (sweep (graph_of graph))) graph
