-- Each way to return is one law of `Laws`.
use Prim.Native.Nat.{◌<◌}
use native.Mathlib.Omega.{arith}
use lib.ListN.{length}
use Rattle.std.proofs.lemmas.Result.{err_from_is_err_and}
use Rattle.definitions.specs.Rule.{source_inputs}
use Rattle.rule_fields.specs.Fixed.{fixed_of}
use Rattle.rule_order.proofs.Laws.{visited_before, inputs_wrong, not_next, is_next, inputs-done, input_wrong, input_passed}
use Rattle.rule_order.proofs.+visit_visit_inputs.Goals as goal

-- ---- visit

pub visit-returns-then-v-next : goal.visit-returns-then-v-next
visit-returns-then-v-next t c = visited_before c.args.rule.now c.args.v c.args.next c.requires.count c.if-v-next.true

pub visit-returns-in_err-after : goal.visit-returns-in_err-after
visit-returns-in_err-after t c =
    let p = err_from_is_err_and c.from_residual.result c.from_residual.ensures.1 in
    rw (p.1, p.2) (inputs_wrong c.args.rule.now c.args.v c.args.next c.requires.count c.if-v-next.false c.in_err-after.ensures)

pub visit-returns-else-v-after : goal.visit-returns-else-v-after
visit-returns-else-v-after t c =
    not_next c.args.rule.now c.args.v c.args.next c.requires.count c.if-v-next.false c.in_ok-after.ensures (λ e. omega arith)

pub visit-returns-then-v-after : goal.visit-returns-then-v-after
visit-returns-then-v-after t c =
    is_next c.args.rule.now c.args.v c.args.next c.requires.count c.if-v-next.false c.in_ok-after.ensures (omega arith) c.requires.vertex

-- ---- visit_inputs

pub visit_inputs-returns-then-i-source_input_count : goal.visit_inputs-returns-then-i-source_input_count
visit_inputs-returns-then-i-source_input_count t c =
    inputs-done c.args.rule.now c.args.v c.args.i c.args.next (omega arith) c.requires.may_visit.count

-- an input that is left is lower than its vertex
pub visit_inputs-returns-in_err-after : goal.visit_inputs-returns-in_err-after
visit_inputs-returns-in_err-after t c =
    let left : c.args.i < length (source_inputs (fixed_of c.args.rule.now) c.args.v) = omega arith in
    let lower : c.source_input.result < c.args.v =
    rw c.source_input.ensures.0 (c.requires.may_visit.layout.layered.lower c.args.v c.args.i c.requires.may_visit.vertex left) in
    let p = err_from_is_err_and c.from_residual.result c.from_residual.ensures.1 in
    rw (p.1, p.2) (input_wrong c.args.rule.now c.args.v c.args.i c.args.next c.source_input.result left c.source_input.ensures.0 lower c.in_err-after.ensures)

pub visit_inputs-returns : goal.visit_inputs-returns
visit_inputs-returns t c =
    let left : c.args.i < length (source_inputs (fixed_of c.args.rule.now) c.args.v) = omega arith in
    let lower : c.source_input.result < c.args.v =
    rw c.source_input.ensures.0 (c.requires.may_visit.layout.layered.lower c.args.v c.args.i c.requires.may_visit.vertex left) in
    input_passed c.args.rule.now c.args.v c.args.i c.args.next c.source_input.result left c.source_input.ensures.0 lower
    c.in_ok-after.ensures c.visit_inputs.ensures
