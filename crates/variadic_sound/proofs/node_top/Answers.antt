-- By the form of the node. The operands of an operation are earlier nodes, whose highest accesses are known.
use mathlib.Core.Path.{◌≡◌, sym, ap, ap₂, ◌∙◌}
use Prim.Native.Nat.{ℕ, ◌+◌, ◌<◌, max}
use native.Mathlib.Omega.{arith}
use Rattle.definitions.specs.Fields.{Bytes}
use Rattle.definitions.specs.Rule.{form_access, node_form}
use Rattle.rule_fields.specs.Fixed.{left_in, right_in, expression_in}
use Rattle.rule_nodes.specs.Nodes.{GoodNode}
use Rattle.rule_accesses.specs.Access.{top_access}
use Rattle.variadic_sound.proofs.Laws.{leaf_top, access_top, operation_top, top_small}
use Rattle.variadic_sound.proofs.node_top.Goals as goal

pub returns-then-form-lt-FORM_ACCESS : goal.returns-then-form-lt-FORM_ACCESS
returns-then-form-lt-FORM_ACCESS c = (leaf_top c.args.rule.now c.args.k c.requires.k_bound (omega (arith, c.node_form-form.ensures.0, c.if-form-lt-FORM_ACCESS.true)), omega arith)

pub returns-then-form-eq-FORM_ACCESS : goal.returns-then-form-eq-FORM_ACCESS
returns-then-form-eq-FORM_ACCESS c = (
  ap (λ (n : ℕ). n + 1) c.node_byte.ensures.0
      ∙ access_top c.args.rule.now c.args.k c.requires.k_bound (sym c.node_form-form.ensures.0 ∙ c.if-form-eq-FORM_ACCESS.true),
  omega (arith, c.node_byte.ensures.1),
)

pub returns : goal.returns
returns c = let good : GoodNode c.args.rule.now c.args.k = c.requires.judgeable.evaluable.nodes c.args.k c.requires.k_bound in
    let operation : form_access < node_form c.args.rule.now c.args.k = omega (arith, c.node_form-form.ensures.0, c.if-form-lt-FORM_ACCESS.false, c.if-form-eq-FORM_ACCESS.false) in
    let left-known : c.node_left-left.result < c.args.k = omega (arith, good.left operation, c.node_left-left.ensures) in
    let right-known : c.node_right-right.result < c.args.k = omega (arith, good.right operation, c.node_right-right.ensures) in
    let left : c.from.result ≡ top_access (expression_in c.args.rule.now (left_in c.args.rule.now c.args.k)) =
    c.from.ensures ∙ c.requires.tops_below.known c.node_left-left.result left-known
    ∙ ap (λ (n : ℕ). top_access (expression_in c.args.rule.now n)) c.node_left-left.ensures in
    let right : c.from-2.result ≡ top_access (expression_in c.args.rule.now (right_in c.args.rule.now c.args.k)) =
    c.from-2.ensures ∙ c.requires.tops_below.known c.node_right-right.result right-known
    ∙ ap (λ (n : ℕ). top_access (expression_in c.args.rule.now n)) c.node_right-right.ensures in
    let gives : c.max.result ≡ top_access (expression_in c.args.rule.now c.args.k) = c.max.ensures ∙ ap₂ max left right
    ∙ operation_top c.args.rule.now c.args.k c.requires.k_bound good operation in
    let bytes : Bytes c.args.rule.now = λ at. omega (arith, c.shared_slice_known-1.given at) in
    (gives, omega (arith, gives, top_small c.args.rule.now c.requires.judgeable.evaluable.nodes bytes c.args.k c.requires.k_bound))
