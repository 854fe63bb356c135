-- A sum, or not.
use mathlib.Core.Path.{◌≡◌, sym, ◌∙◌}
use mathlib.Core.Bool.{false}
use borrow.Author.Tests.{ne_eqb}
use lib.Dec.{eqb}
use Rattle.definitions.specs.Rule.{form_sum, node_form}
use Rattle.variadic_terms.specs.Terms.{number_in}
use Rattle.variadic_terms.proofs.Cases.{at_sum, at_plain}
use Rattle.variadic_terms.proofs.term_at.Goals as goal

pub returns-then-node_form-eq-FORM_SUM : goal.returns-then-node_form-eq-FORM_SUM
returns-then-node_form-eq-FORM_SUM c = c.sum_term.ensures
    ∙ sym (at_sum c.args.rule.now (number_in c.args.numbers.now c.args.count) c.args.n c.args.k c.args.i
    (sym c.node_form.ensures.0 ∙ c.if-node_form-eq-FORM_SUM.true))

pub returns : goal.returns
returns c = let other : eqb (node_form c.args.rule.now c.args.k) form_sum ≡ false = ne_eqb (node_form c.args.rule.now c.args.k) form_sum (λ f. c.if-node_form-eq-FORM_SUM.false (c.node_form.ensures.0 ∙ f)) in
    c.plain_term.ensures
    ∙ sym (at_plain c.args.rule.now (number_in c.args.numbers.now c.args.count) c.args.n c.args.k c.args.i
    other)
