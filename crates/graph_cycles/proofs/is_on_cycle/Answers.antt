use mathlib.Core.Path.{◌≡◌}
use Prim.Native.Nat.{◌-◌, ◌≤◌, ◌<◌}
use native.Mathlib.Omega.{arith}
use lib.ListN.{length, take, length-replicate}
use mathlib.Core.Bool.{Bool, false}
use Rattle.definitions.specs.Graph.{slot_limit, unused_place, slot_count, graph_of, inputs_of}
use Rattle.definitions.specs.Paths.{is_marked}
use Rattle.acyclic.proofs.Laws.{table}
use Rattle.reachability.specs.Marks.{Marks}
use Rattle.reachability.proofs.Marks.{marks_none, marks_more}
use Rattle.graph_cycles.proofs.Laws.{marked_ends}
use Rattle.graph_cycles.proofs.is_on_cycle.Goals as goal

pub loop-i-init : goal.loop-i-init
loop-i-init c = (length-replicate {A = Bool} 512 false, marks_none 512)

pub loop-i-preserved : goal.loop-i-preserved
loop-i-preserved c = let one_left : c.loop-i.i < length (inputs_of (graph_of c.args.graph.now) c.args.v) = omega (arith, c.loop-i-test.true, c.input_count-inputs.ensures.0) in (
  c.mark_from.ensures.marks_len_2,
  marks_more (inputs_of (graph_of c.args.graph.now) c.args.v) c.loop-i.i unused_place c.loop-i.invariant.1 one_left c.input_at.ensures.0 c.mark_from.ensures.spread,
)

pub returns : goal.returns
returns c = marked_ends c.args.v c.loop-i.i c.loop-i.marks c.loop-i.invariant.1 (table c.requires.closed)
    (omega (arith, c.loop-i-test.false, c.input_count-inputs.ensures.0))
