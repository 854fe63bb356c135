-- There are at most 64 nodes, and at most 7 indices.
use mathlib.Core.Path.{◌≡◌, sym, ap, ◌∙◌}
use Prim.Native.Nat.{◌+◌, ◌*◌, ◌≤◌}
use native.Mathlib.Nat.{mul-le-mul}
use native.Mathlib.Omega.{arith}
use borrow.Author.Tests.{ne_eqb}
use Rattle.definitions.specs.Fields.{byte_at}
use Rattle.definitions.specs.Rule.{form_sum, node_form}
use Rattle.variadic_terms.proofs.Cases.{sum_term_of, other_term_of}
use Rattle.variadic_terms.proofs.term_of.Goals as goal

pub returns-then-form-eq-FORM_SUM : goal.returns-then-form-eq-FORM_SUM
returns-then-form-eq-FORM_SUM c =
    let form : c.byte_at-form.result ≡ node_form c.args.rule.now c.args.k = c.byte_at-form.ensures.0
    ∙ ap (byte_at c.args.rule.now) (omega (arith, c.target_count.ensures.0, c.source_count.ensures.0)) in
    let product : c.args.k * (c.args.n + 1) ≤ 63 * 7 = let few : c.args.k ≤ 63 = omega arith in
    let indices : c.args.n + 1 ≤ 7 = omega arith in
    mul-le-mul few indices in
    (sym (sum_term_of c.args.rule.now c.args.n c.args.k c.args.index (omega (arith, form))), omega (arith, product))

pub returns-else-form-eq-FORM_SUM : goal.returns-else-form-eq-FORM_SUM
returns-else-form-eq-FORM_SUM c =
    let form : c.byte_at-form.result ≡ node_form c.args.rule.now c.args.k = c.byte_at-form.ensures.0
    ∙ ap (byte_at c.args.rule.now) (omega (arith, c.target_count.ensures.0, c.source_count.ensures.0)) in
    let product : c.args.k * (c.args.n + 1) ≤ 63 * 7 = let few : c.args.k ≤ 63 = omega arith in
    let indices : c.args.n + 1 ≤ 7 = omega arith in
    mul-le-mul few indices in
    (sym (other_term_of c.args.rule.now c.args.n c.args.k c.args.index (ne_eqb (node_form c.args.rule.now c.args.k) form_sum (λ e. omega (arith, form)))), omega (arith, product))
