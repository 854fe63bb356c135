-- The two halves make the 64-bit word.
use native.Mathlib.Omega.{arith}
use Rattle.fields.proofs.Words.{word_halves}
use Rattle.fields.proofs.u64_at.Goals as goal

pub returns : goal.returns
returns c = let a = c.args in
    omega (arith, word_halves a.block.now a.at, c.u32_at-low.ensures.0, c.u32_at-high.ensures.0)
