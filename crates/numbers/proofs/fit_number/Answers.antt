-- The library says when a number fits in 32 bits.
use native.Mathlib.Omega.{arith}
use Rattle.std.proofs.lemmas.Int.{to_z-of_z}
use Rattle.numbers.proofs.Laws.{fitted}
use Rattle.numbers.proofs.fit_number.Goals as goal

pub returns : goal.returns
returns c = fitted c.ok.result c.args.number (grind (arith, to_z-of_z, c.ok.ensures.value, c.try_from.ensures))
