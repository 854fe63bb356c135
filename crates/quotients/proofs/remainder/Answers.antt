-- Nothing by zero; else what the division gives, if it is in range.
use native.Mathlib.Omega.{arith}
use Rattle.std.proofs.lemmas.Int.{to_z-of_z}
use Rattle.definitions.specs.Attributes.{operate}
use Rattle.numbers.specs.Value.{value_of}
use Rattle.quotients.proofs.remainder.Goals as goal

pub returns-in_err-divided : goal.returns-in_err-divided
unfolding value_of operate
returns-in_err-divided c = grind (arith, to_z-of_z)

pub returns : goal.returns
unfolding operate
returns c = grind (arith, to_z-of_z)
