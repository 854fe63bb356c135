-- The fields are those of the definition.
use mathlib.Core.Path.{refl}
use Rattle.variadic_terms.specs.Terms.{constant_term}
use Rattle.variadic_terms.proofs.constant_term.Goals as goal

pub returns : goal.returns
unfolding constant_term
returns c = refl
