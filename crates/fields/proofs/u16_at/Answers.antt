-- The two bytes' numbers make the 16-bit number.
use native.Mathlib.Omega.{arith}
use Rattle.definitions.specs.Fields.{u16_at}
use Rattle.fields.proofs.u16_at.Goals as goal

pub returns : goal.returns
unfolding u16_at
returns c = (omega (arith, c.byte_at-low.ensures.0, c.byte_at-high.ensures.0), omega arith)
