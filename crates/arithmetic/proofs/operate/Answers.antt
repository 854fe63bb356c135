-- The forms in the order of `operations`.
use native.Mathlib.Omega.{arith}
use lib.IntN.{◌+ℤ◌, ◌-ℤ◌, ◌*ℤ◌}
use Rattle.std.proofs.lemmas.Int.{to_z-of_z}
use Rattle.definitions.specs.Rule.{operations}
use Rattle.definitions.specs.Attributes.{operate}
use Rattle.numbers.proofs.Laws.{fitted}
use Rattle.arithmetic.proofs.Laws.{remains}
use Rattle.arithmetic.proofs.operate.Goals as goal

pub returns-in-3 : goal.returns-in-3
unfolding operations operate
returns-in-3 c = rw c.in-3.is (fitted c.checked_add.result (c.args.x +ℤ c.args.y) (grind (arith, to_z-of_z, c.checked_add.ensures)))

pub returns-in-4 : goal.returns-in-4
unfolding operations operate
returns-in-4 c = rw c.in-4.is (fitted c.checked_sub.result (c.args.x -ℤ c.args.y) (grind (arith, to_z-of_z, c.checked_sub.ensures)))

pub returns-in-5 : goal.returns-in-5
unfolding operations operate
returns-in-5 c = rw c.in-5.is (fitted c.checked_mul.result (c.args.x *ℤ c.args.y) (grind (arith, to_z-of_z, c.checked_mul.ensures)))

pub returns-in-6 : goal.returns-in-6
unfolding operations
returns-in-6 c = rw c.in-6.is (grind (arith, to_z-of_z, c.divide.ensures))

pub returns-in_default : goal.returns-in_default
returns-in_default c = rw (remains c.args.form (omega arith)) (grind (arith, to_z-of_z, c.remainder.ensures))
