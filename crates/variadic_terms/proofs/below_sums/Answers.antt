use mathlib.Core.Path.{◌≡◌, sym, ◌∙◌, ap}
use Prim.Native.Nat.{◌<◌}
use native.Mathlib.Omega.{arith}
use borrow.Author.Tests.{ne_eqb}
use Rattle.definitions.specs.Rule.{node_count, form_sum, node_form, node_left}
use Rattle.variadic_terms.specs.Terms.{bottom}
use Rattle.variadic_terms.proofs.Fits.{sum_earlier, descend-stays, bottom-step}
use Rattle.variadic_terms.proofs.below_sums.Goals as goal

pub loop-x-smaller : goal.loop-x-smaller
loop-x-smaller c = let inside : c.loop-x.x < node_count c.args.rule.now = omega (arith, c.loop-x.invariant.0, c.requires.k_bound) in
    let is_sum : node_form c.args.rule.now c.loop-x.x ≡ form_sum = sym c.node_form.ensures.0 ∙ c.loop-x-test.true in
    let earlier : node_left c.args.rule.now c.loop-x.x < c.loop-x.x = sum_earlier c.args.rule.now c.loop-x.x (c.requires.expandable.nodes c.loop-x.x inside) is_sum in
    omega (arith, earlier, c.node_byte-x.ensures.0)

pub loop-x-preserved : goal.loop-x-preserved
loop-x-preserved c = let inside : c.loop-x.x < node_count c.args.rule.now = omega (arith, c.loop-x.invariant.0, c.requires.k_bound) in
    let is_sum : node_form c.args.rule.now c.loop-x.x ≡ form_sum = sym c.node_form.ensures.0 ∙ c.loop-x-test.true in
    let earlier : node_left c.args.rule.now c.loop-x.x < c.loop-x.x = sum_earlier c.args.rule.now c.loop-x.x (c.requires.expandable.nodes c.loop-x.x inside) is_sum in (
      omega (arith, earlier, c.node_byte-x.ensures.0, c.loop-x.invariant.0),
      ap (bottom c.args.rule.now) c.node_byte-x.ensures.0 ∙ sym (bottom-step c.args.rule.now c.requires.expandable.nodes c.loop-x.x inside is_sum)
          ∙ c.loop-x.invariant.1,
    )

pub returns : goal.returns
returns c = let other = ne_eqb (node_form c.args.rule.now c.loop-x.x) form_sum (λ e. c.loop-x-test.false (c.node_form.ensures.0 ∙ e)) in
    (sym (descend-stays c.args.rule.now c.loop-x.x c.loop-x.x other) ∙ c.loop-x.invariant.1, c.loop-x.invariant.0, other)
