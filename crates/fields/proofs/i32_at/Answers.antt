-- A word below 2 ^ 31 is its number; another is less by 2 ^ 32.
use native.Mathlib.Omega.{arith}
use Rattle.definitions.specs.Fields.{signed}
use Rattle.std.proofs.lemmas.Int.{ints}
use Rattle.fields.proofs.i32_at.Goals as goal

pub returns : goal.returns
unfolding signed
returns c = grind (arith, ints)
