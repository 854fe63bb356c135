-- The word is the value's word exactly where its eight bytes are the value.
use mathlib.Core.Path.{ap, ◌∙◌}
use Prim.Native.Nat.{ℕ, ◌*◌}
use native.Mathlib.Omega.{arith}
use lib.Dec.{eqb}
use Rattle.runs.proofs.Words.{word-filled}
use Rattle.runs.proofs.word_filled.Goals as goal

pub returns : goal.returns
returns c = let a = c.args in
    ap (λ (w : ℕ). eqb w (72340172838076673 * a.value)) c.u64_at.ensures
    ∙ word-filled a.block.now a.at a.value (λ i. omega (arith, c.shared_slice_known-1.given i)) (omega arith)
