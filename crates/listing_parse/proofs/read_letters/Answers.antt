use mathlib.Core.Path.{ap, ◌∙◌}
use native.Mathlib.Omega.{arith}
use lib.ListN.{drop}
use Rattle.definitions.specs.Sheet.{Sheet}
use Rattle.listing.specs.Forms.{Form, answer_from, go_on}
use Rattle.listing_parse.proofs.Letters.{letters_early, letters_other, letters_same, letters_over}
use Rattle.listing_parse.proofs.read_letters.Goals.{then-place-text-via-then-place-text, then-place-text-via-else-place-text+then-text-place}
use Rattle.listing_parse.proofs.read_letters.Goals as goal

pub loop-letter-preserved : goal.loop-letter-preserved
loop-letter-preserved c = (
  omega arith,
  λ f. c.loop-letter.invariant.1 f ∙ letters_same c.args.text.now c.args.letters.now c.loop-letter.letter-index c.loop-letter.place (omega arith) f (omega arith) c.if-text-place.false,
)

pub returns-then-place-text-clause-part_read : goal.returns-then-place-text-clause-part_read
unfolding go_on
returns-then-place-text-clause-part_read c = λ f. c.loop-letter.invariant.1 (f 0) ∙ elim c.then-place-text.branch [
  | then-place-text-via-then-place-text w ↦ letters_early c.args.text.now c.args.letters.now c.loop-letter.letter-index c.loop-letter.place c.loop-letter-test.true (f 0) (omega (arith, w.if-place-text.true))
  | then-place-text-via-else-place-text+then-text-place w ↦ letters_other c.args.text.now c.args.letters.now c.loop-letter.letter-index c.loop-letter.place c.loop-letter-test.true (f 0) (omega (arith, w.if-place-text.false)) w.if-text-place.true
]

pub returns-clause-part_read : goal.returns-clause-part_read
unfolding go_on
returns-clause-part_read c = λ f. c.loop-letter.invariant.1 (f 0) ∙ ap (λ (g : Form Sheet). answer_from g c.loop-letter.place (drop c.loop-letter.place c.args.text.now))
    (letters_over c.args.letters.now c.loop-letter.letter-index (f 0) c.loop-letter-test.false)
