-- The look, and then the uses: the count that the slot stores is the true one.
use native.Mathlib.Omega.{arith}
use Rattle.std.proofs.lemmas.Grind.{common_steps}
use Rattle.match_look.specs.Candidate.{suits}
use Rattle.match_look.proofs.suits.Goals as goal

pub returns-then-passes_look : goal.returns-then-passes_look
unfolding suits
returns-then-passes_look c = grind (arith, common_steps, c.requires.counts c.args.v c.requires.slot)

pub returns-else-passes_look : goal.returns-else-passes_look
unfolding suits
returns-else-passes_look c = grind (arith, common_steps)
