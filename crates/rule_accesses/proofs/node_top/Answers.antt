-- The tests are the definition's, on the bytes that were read. The operands of an operation are earlier nodes, so their tops are there.
use Prim.Native.Nat.{◌<◌}
use native.Mathlib.Omega.{arith}
use borrow.Author.Tests.{lt-ltb, le-ltb, eq-eqb, ne_eqb}
use Rattle.definitions.specs.Rule.{form_access, form_index, form_sum, node_form}
use Rattle.rule_accesses.specs.Access.{top_from}
use Rattle.rule_nodes.proofs.Operands.{few_forms, left-earlier, right-earlier}
use Rattle.rule_accesses.proofs.node_top.Goals as goal

pub returns-then-form-lt-FORM_ACCESS : goal.returns-then-form-lt-FORM_ACCESS
unfolding top_from
returns-then-form-lt-FORM_ACCESS c = simp (← c.node_form-form.ensures.0, lt-ltb _ 2 c.if-form-lt-FORM_ACCESS.true)

pub returns-then-form-eq-FORM_ACCESS : goal.returns-then-form-eq-FORM_ACCESS
unfolding top_from
returns-then-form-eq-FORM_ACCESS c = simp (
  ← c.node_form-form.ensures.0,
  ← c.node_byte-left.ensures.0,
  le-ltb _ 2 c.if-form-lt-FORM_ACCESS.false,
  eq-eqb _ 2 c.if-form-eq-FORM_ACCESS.true,
)

pub bounds-tops-left : goal.bounds-tops-left
bounds-tops-left c = let operation : form_access < node_form c.args.rule.now c.args.k = omega (arith, c.node_form-form.ensures.0, c.if-form-lt-FORM_ACCESS.false, c.if-form-eq-FORM_ACCESS.false) in
    omega (arith, left-earlier c.args.rule.now c.args.k c.requires.k_value operation, c.node_byte-left.ensures.0)

pub bounds-tops-right : goal.bounds-tops-right
bounds-tops-right c = let operation : form_access < node_form c.args.rule.now c.args.k = omega (arith, c.node_form-form.ensures.0, c.if-form-lt-FORM_ACCESS.false, c.if-form-eq-FORM_ACCESS.false) in
    omega (arith, right-earlier c.args.rule.now c.args.k c.requires.k_value operation, c.node_byte-right.ensures.0)

pub returns-else-form-eq-FORM_ACCESS : goal.returns-else-form-eq-FORM_ACCESS
unfolding top_from
returns-else-form-eq-FORM_ACCESS c = let operation : form_access < node_form c.args.rule.now c.args.k = omega (arith, c.node_form-form.ensures.0, c.if-form-lt-FORM_ACCESS.false, c.if-form-eq-FORM_ACCESS.false) in
    let few = few_forms c.args.rule.now c.args.k c.requires.k_value operation in
    let form = node_form c.args.rule.now c.args.k in
    let read = c.node_form-form.ensures.0 in
    simp (
      ← c.node_form-form.ensures.0,
      ← c.node_byte-left.ensures.0,
      ← c.node_byte-right.ensures.0,
      le-ltb _ 2 c.if-form-lt-FORM_ACCESS.false,
      ne_eqb _ 2 c.if-form-eq-FORM_ACCESS.false,
      rw (← read) at (ne_eqb form form_index (λ h. omega arith)),
      rw (← read) at (ne_eqb form form_sum (λ h. omega arith)),
    ) c.max.ensures
