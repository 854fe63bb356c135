-- The fields are those of the definition.
use mathlib.Core.Path.{refl}
use Rattle.variadic_terms.specs.Terms.{any_term}
use Rattle.variadic_terms.proofs.any_term.Goals as goal

pub returns : goal.returns
unfolding any_term
returns c = refl
