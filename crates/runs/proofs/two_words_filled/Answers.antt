-- The first word and the last leave no gap.
use native.Mathlib.Omega.{arith}
use Prim.Native.Nat.{◌+◌, ◌-◌}
use mathlib.Core.Path.{◌≡◌, sym, ◌∙◌}
use Rattle.laws.proofs.Tests.{failed, held, answered}
use Rattle.fields.specs.Words.{word_bytes}
use Rattle.fields.proofs.Laws.{filled_parts}
use Rattle.runs.proofs.two_words_filled.Goals as goal

pub returns-then-word_filled : goal.returns-then-word_filled
returns-then-word_filled c = let a = c.args in
    let end : a.to - word_bytes + word_bytes ≡ a.to = omega arith in
    answered (held
    (filled_parts a.block.now a.value a.from (a.from + word_bytes) (a.to - word_bytes) a.to (omega arith) (omega arith) (omega arith))
    (sym c.word_filled.ensures ∙ c.if-word_filled.true)) (rw end at c.word_filled-then-word_filled.ensures)

pub returns-else-word_filled : goal.returns-else-word_filled
returns-else-word_filled c = let a = c.args in
    c.if-word_filled.false ∙ failed
    (filled_parts a.block.now a.value a.from (a.from + word_bytes) (a.to - word_bytes) a.to (omega arith) (omega arith) (omega arith))
    (sym c.word_filled.ensures ∙ c.if-word_filled.false)
