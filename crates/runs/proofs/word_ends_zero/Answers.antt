-- The word is a 16-bit number exactly where its last six bytes are zero.
use mathlib.Core.Path.{ap, ◌∙◌}
use Prim.Native.Nat.{ℕ}
use native.Mathlib.Omega.{arith}
use lib.Dec.{ltb}
use Rattle.runs.proofs.Words.{word_ends}
use Rattle.runs.proofs.word_ends_zero.Goals as goal

pub returns : goal.returns
returns c = let a = c.args in
    ap (λ (w : ℕ). ltb w 65536) c.u64_at.ensures
    ∙ word_ends a.block.now a.at (λ i. omega (arith, c.shared_slice_known-1.given i))
