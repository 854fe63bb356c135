-- The four bytes are copied.
use mathlib.Core.Path.{◌∙◌}
use Rattle.variadic_terms.specs.Terms.{constant_at}
use Rattle.variadic_terms.proofs.same_constant.Goals as goal

pub returns : goal.returns
unfolding constant_at
returns c = c.constant_term.ensures ∙ rw c.node_at-at.ensures.0
