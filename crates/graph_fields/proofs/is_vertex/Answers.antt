-- Past the last slot there is no vertex; a slot is one unless its kind is Empty.
use native.Mathlib.Omega.{arith}
use borrow.Author.Tests.{le-ltb}
use Rattle.definitions.specs.Graph.{empty_slot, graph_of, is_vertex}
use Rattle.laws.proofs.Graph.{length-slots, slot_past}
use Rattle.graph_fields.proofs.is_vertex.Goals as goal

pub returns-then-v-slot_count : goal.returns-then-v-slot_count
unfolding is_vertex
returns-then-v-slot_count c = rw (← c.kind_of.ensures.0)

pub returns-else-v-slot_count : goal.returns-else-v-slot_count
unfolding is_vertex empty_slot
returns-else-v-slot_count c = let graph = c.args.graph.now in
    rw (slot_past (graph_of graph) c.args.v (omega (arith, length-slots graph)), le-ltb c.args.v c.slot_count.result (omega arith))
