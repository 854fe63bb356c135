-- An operand without a result gives none.
use native.Mathlib.Omega.{arith}
use Rattle.std.proofs.lemmas.Int.{to_z-of_z}
use Rattle.definitions.specs.Attributes.{combine}
use Rattle.numbers.specs.Value.{value_of}
use Rattle.arithmetic.proofs.combine.Goals as goal

pub returns-in_err-x : goal.returns-in_err-x
unfolding combine value_of
returns-in_err-x c = grind arith

pub returns-in_err-y : goal.returns-in_err-y
unfolding combine value_of
returns-in_err-y c = grind arith

pub returns : goal.returns
unfolding combine value_of
returns c = grind (arith, to_z-of_z)
