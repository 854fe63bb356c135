-- The fields are those of the definition.
use mathlib.Core.Path.{refl}
use Rattle.variadic_terms.specs.Terms.{operation_term}
use Rattle.variadic_terms.proofs.operation_term.Goals as goal

pub returns : goal.returns
unfolding operation_term
returns c = refl
