-- The pair of words and the last one leave no gap.
use native.Mathlib.Omega.{arith}
use Prim.Native.Nat.{◌+◌, ◌-◌}
use mathlib.Core.Path.{◌≡◌, sym, ◌∙◌}
use Rattle.laws.proofs.Tests.{failed, held, answered}
use Rattle.fields.specs.Words.{word_bytes}
use Rattle.fields.proofs.Laws.{filled_parts}
use Rattle.runs.proofs.three_words_filled.Goals as goal

pub returns-then-two_words_filled : goal.returns-then-two_words_filled
returns-then-two_words_filled c = let a = c.args in
    let middle = c.min-middle.result in
    let end : a.to - word_bytes + word_bytes ≡ a.to = omega arith in
    answered (held
    (filled_parts a.block.now a.value a.from middle (a.to - word_bytes) a.to (omega arith) (omega arith) (omega arith))
    (sym c.two_words_filled.ensures ∙ c.if-two_words_filled.true)) (rw end at c.word_filled.ensures)

pub returns-else-two_words_filled : goal.returns-else-two_words_filled
returns-else-two_words_filled c = let a = c.args in
    let middle = c.min-middle.result in
    c.if-two_words_filled.false ∙ failed (filled_parts a.block.now a.value a.from middle middle a.to (omega arith) (omega arith) (omega arith))
    (sym c.two_words_filled.ensures ∙ c.if-two_words_filled.false)
