use Prim.Native.Nat.{◌<◌}
use native.Mathlib.Omega.{arith}
use Rattle.definitions.specs.Rule.{source_count, rule_output_count}
use Rattle.rule_order.proofs.Laws.{outputs-begin, outputs-done, output_wrong, output_passed}
use Rattle.rule_order.proofs.first_misplaced.Goals as goal

pub loop-i-init : goal.loop-i-init
loop-i-init c = (omega arith, outputs-begin c.args.rule.now)

pub returns-in-Err : goal.returns-in-Err
returns-in-Err c = let place : c.loop-i.i < rule_output_count c.args.rule.now = omega (arith, c.output_count-i-end.ensures.0) in
    let inside : c.source_output.result < source_count c.args.rule.now = rw c.source_output.ensures.0 (c.requires.layered.outputs c.loop-i.i place) in
    output_wrong c.args.rule.now c.loop-i.i c.loop-i.next c.source_output.result c.loop-i.invariant.1 place c.source_output.ensures.0 inside c.in-Err.ensures

pub loop-i-preserved : goal.loop-i-preserved
loop-i-preserved c = let place : c.loop-i.i < rule_output_count c.args.rule.now = omega (arith, c.output_count-i-end.ensures.0) in
    let inside : c.source_output.result < source_count c.args.rule.now = rw c.source_output.ensures.0 (c.requires.layered.outputs c.loop-i.i place) in
    (c.in-Ok.ensures.small, output_passed c.args.rule.now c.loop-i.i c.loop-i.next c.source_output.result c.loop-i.invariant.1 place c.source_output.ensures.0 inside c.in-Ok.ensures)

pub returns : goal.returns
returns c = outputs-done c.args.rule.now c.loop-i.i c.loop-i.next c.loop-i.invariant.1 (omega arith) c.loop-i.invariant.0
