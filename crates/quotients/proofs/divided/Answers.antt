-- By the sign of the divisor.
use native.Mathlib.Omega.{arith}
use Rattle.std.proofs.lemmas.Int.{ints, to_z-of_z}
use Rattle.definitions.specs.Attributes.{is_zero}
use Rattle.quotients.proofs.Laws.{divides-above, divides-below}
use Rattle.quotients.proofs.divided.Goals as goal

pub returns-then-y-eq0 : goal.returns-then-y-eq0
unfolding is_zero
returns-then-y-eq0 c = grind (arith, ints)

pub returns-then-y-lt0 : goal.returns-then-y-lt0
returns-then-y-lt0 c = divides-below c.args.x (grind (arith, ints)) (grind (arith, ints, to_z-of_z)) (grind (arith, ints, to_z-of_z))

pub returns-else-y-lt0 : goal.returns-else-y-lt0
returns-else-y-lt0 c = divides-above c.args.x (grind (arith, ints)) (λ e. grind (arith, ints)) (grind (arith, ints, to_z-of_z)) (grind (arith, ints, to_z-of_z))
