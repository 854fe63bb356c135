-- The two halves make the 32-bit word.
use native.Mathlib.Omega.{arith}
use Rattle.definitions.specs.Fields.{u32_at}
use Rattle.fields.proofs.u32_at.Goals as goal

pub returns : goal.returns
unfolding u32_at
returns c = (omega (arith, c.u16_at-low.ensures.0, c.u16_at-high.ensures.0), omega arith)
