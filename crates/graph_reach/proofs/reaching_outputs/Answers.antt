use mathlib.Core.Path.{◌≡◌}
use mathlib.Core.Bool.{Bool, false}
use Prim.Native.Nat.{◌-◌, ◌<◌, ◌≤◌}
use native.Mathlib.Omega.{arith}
use lib.ListN.{length, take, length-replicate}
use lib.Seq.{take_all}
use Rattle.definitions.specs.Paths.{is_marked}
use Rattle.definitions.specs.Graph.{slot_limit, unused_place, slot_count, output_count, graph_of, inputs_of}
use Rattle.laws.proofs.Graph.{length-outputs}
use Rattle.reachability.specs.Marks.{Marks}
use Rattle.reachability.proofs.Marks.{marks_none, marks_more}
use Rattle.graph_reach.proofs.reaching_outputs.Goals as goal

pub loop-i-init : goal.loop-i-init
loop-i-init c = (length-replicate {A = Bool} 512 false, marks_none 512)

pub loop-i-preserved : goal.loop-i-preserved
loop-i-preserved c = let one_left : c.loop-i.i < output_count c.args.graph.now = omega (arith, c.loop-i-test.true, c.output_count-outputs.ensures.0) in
    let graph = c.args.graph.now in (
      c.mark_from.ensures.marks_len_2,
      marks_more (graph_of graph).outputs c.loop-i.i unused_place c.loop-i.invariant.1 (rw (length-outputs graph) one_left)
          c.output_at.ensures.0 c.mark_from.ensures.spread,
    )

pub returns-clause-marks : goal.returns-clause-marks
returns-clause-marks c = let graph = c.args.graph.now in
    let last : length (graph_of graph).outputs ≤ c.loop-i.i =
    omega (arith, c.loop-i-test.false, c.output_count-outputs.ensures.0, length-outputs graph) in rw (take_all c.loop-i.i (graph_of graph).outputs last) at c.loop-i.invariant.1
