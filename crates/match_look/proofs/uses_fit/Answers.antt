-- A demand of 0 is none; one less than another is the number of uses.
use native.Mathlib.Omega.{arith}
use Rattle.std.proofs.lemmas.Bool.Decides.{nat_tests}
use Rattle.match_look.specs.Candidate.{uses_fit}
use Rattle.match_look.proofs.uses_fit.Goals as goal

pub returns-then-demand-eq0 : goal.returns-then-demand-eq0
unfolding uses_fit
returns-then-demand-eq0 c = grind (arith, nat_tests)

pub returns-else-demand-eq0 : goal.returns-else-demand-eq0
unfolding uses_fit
returns-else-demand-eq0 c = grind (arith, nat_tests)
