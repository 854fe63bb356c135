use mathlib.Core.Path.{◌∙◌}
use Prim.Native.Nat.{◌<◌}
use native.Mathlib.Omega.{arith}
use Rattle.definitions.specs.Graph.{slot_count}
use Rattle.graph_fields.specs.Layout.{WholeGraph}
use Rattle.graph_check.proofs.Readable.{graph_readable, graph_closed, graph-outputs}
use Rattle.graph_sweep.proofs.Laws.{marked_more, same_unneeded}
use Rattle.graph_sweep.proofs.find_unneeded.Goals as goal

pub slot_count-slots-requires : goal.slot_count-slots-requires
slot_count-slots-requires c = omega (arith, (graph_readable c.args.graph.now c.requires).whole.size)

pub bounds-unneeded-v : goal.bounds-unneeded-v
bounds-unneeded-v c = let inside : c.loop-v.v < slot_count c.args.graph.now = omega (arith, c.loop-v-test.true, c.slot_count-slots.ensures.0) in
    let whole : WholeGraph c.args.graph.now = (graph_readable c.args.graph.now c.requires).whole in
    omega (arith, inside, whole.slots)

pub loop-v-preserved : goal.loop-v-preserved
loop-v-preserved c = let inside : c.loop-v.v < slot_count c.args.graph.now = omega (arith, c.loop-v-test.true, c.slot_count-slots.ensures.0) in
    let whole : WholeGraph c.args.graph.now = (graph_readable c.args.graph.now c.requires).whole in
    marked_more c.loop-v.v (omega (arith, inside, whole.slots)) c.loop-v.invariant
    (c.goes.ensures
    ∙ same_unneeded c.args.graph.now c.requires c.reaching_outputs-needed.result
    c.reaching_outputs-needed.ensures.marks c.loop-v.v)

pub reaching_outputs-needed-requires-clause-readable_graph : goal.reaching_outputs-needed-requires-clause-readable_graph
reaching_outputs-needed-requires-clause-readable_graph c = graph_readable c.args.graph.now c.requires

pub reaching_outputs-needed-requires-clause-closed : goal.reaching_outputs-needed-requires-clause-closed
reaching_outputs-needed-requires-clause-closed c = graph_closed c.args.graph.now c.requires

pub reaching_outputs-needed-requires-clause-outputs_named : goal.reaching_outputs-needed-requires-clause-outputs_named
reaching_outputs-needed-requires-clause-outputs_named c = graph-outputs c.args.graph.now c.requires

pub goes-requires-clause-whole_graph : goal.goes-requires-clause-whole_graph
goes-requires-clause-whole_graph c = let whole : WholeGraph c.args.graph.now = (graph_readable c.args.graph.now c.requires).whole in
    let inside : c.loop-v.v < slot_count c.args.graph.now = omega (arith, c.loop-v-test.true, c.slot_count-slots.ensures.0) in
    whole
