-- Each way to return, and each branch of the loop, is one law of `Outputs`.
use Prim.Native.Nat.{◌-◌, ◌<◌}
use native.Mathlib.Omega.{arith}
use Rattle.definitions.specs.Rule.{rule_output_count}
use Rattle.variadic_order.proofs.Outputs.{outputs-begin, outputs-done, output_skipped, output_over, output_passed}
use Rattle.variadic_order.proofs.order_of.Goals as goal

pub loop-i-init : goal.loop-i-init
loop-i-init c = outputs-begin c.args.rule.now c.args.side.first c.args.side.base c.args.side.tuple c.args.at c.args.n

pub loop-i-preserved : goal.loop-i-preserved
loop-i-preserved c =
    let left : c.loop-i.i < rule_output_count c.args.rule.now = omega (arith, c.output_count-i-end.ensures.0) in
    elim c.if-side-place.branch [
      | goal.then-side-place+in-Some w ↦ rw (w.copies-is, w.numbers-is, w.count-is)
          (output_passed c.args.rule.now c.args.side.first c.args.side.base c.args.side.tuple c.args.at c.args.n c.loop-i.i
          c.loop-i.invariant left (c.byte_at-place.result - c.args.side.base)
          (omega (arith, c.byte_at-place.ensures.0, w.if-side-place.true)) w.in-Some.ensures.visits w.in-Some.ensures.few)
      | goal.else-side-place w ↦ rw (w.copies-is, w.numbers-is, w.count-is)
          (output_skipped c.args.rule.now c.args.side.first c.args.side.base c.args.side.tuple c.args.at c.args.n c.loop-i.i
          c.loop-i.invariant left (omega (arith, c.byte_at-place.ensures.0, w.if-side-place.false)))
    ]

pub returns-in-None : goal.returns-in-None
returns-in-None c =
    let left : c.loop-i.i < rule_output_count c.args.rule.now = omega (arith, c.output_count-i-end.ensures.0) in
    output_over c.args.rule.now c.args.side.first c.args.side.base c.args.side.tuple c.args.at c.args.n c.loop-i.i c.loop-i.invariant left
    (c.byte_at-place.result - c.args.side.base) (omega (arith, c.byte_at-place.ensures.0)) c.in-None.ensures.visits (omega arith)

pub returns-after-loop-i : goal.returns-after-loop-i
returns-after-loop-i c =
    outputs-done c.args.rule.now c.args.side.first c.args.side.base c.args.side.tuple c.args.at c.args.n c.loop-i.i c.loop-i.invariant
    (omega (arith, c.output_count-i-end.ensures.0))
