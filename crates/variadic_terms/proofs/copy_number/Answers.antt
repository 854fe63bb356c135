-- The test is the definition's.
use borrow.Author.Tests.{eq-eqb, ne_eqb}
use Rattle.variadic_terms.specs.Terms.{number_in}
use Rattle.variadic_terms.proofs.copy_number.Goals as goal

pub returns-then-number-eq0 : goal.returns-then-number-eq0
unfolding number_in
returns-then-number-eq0 c = simp (eq-eqb _ 0 c.if-number-eq0.true)

pub returns : goal.returns
unfolding number_in
returns c = simp (ne_eqb _ 0 c.if-number-eq0.false)
