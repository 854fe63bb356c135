-- The first letter tells the words apart, but for `const` and `call`.
use mathlib.Core.Path.{sym, ◌∙◌, refl}
use native.Mathlib.Omega.{arith}
use Rattle.listing.specs.Forms.{value_of}
use Rattle.listing.specs.Grammar.{literal, word_form}
use Rattle.listing_parse.proofs.Chains.{has_inside, choice_has, choice_lacks}
use Rattle.listing_parse.proofs.read_word.Goals as goal

pub read_const_or_call-requires : goal.read_const_or_call-requires
read_const_or_call-requires c = omega (arith, has_inside _ _ 99 (sym c.has_byte.ensures ∙ c.if-has_byte.true))

pub read_rest-requires : goal.read_rest-requires
read_rest-requires c = omega (arith, has_inside _ _ 118 (sym c.has_byte-else-has_byte.ensures ∙ c.if-has_byte-2.true))

pub read_rest-requires-then-has_byte-3 : goal.read_rest-requires-then-has_byte-3
read_rest-requires-then-has_byte-3 c = omega (arith, has_inside _ _ 116 (sym c.has_byte-else-has_byte-2.ensures ∙ c.if-has_byte-3.true))

pub returns-then-has_byte-clause-part_read : goal.returns-then-has_byte-clause-part_read
unfolding word_form
returns-then-has_byte-clause-part_read c = λ f. choice_has c.args.text.now c.args.at 99 _ _ (sym c.has_byte.ensures ∙ c.if-has_byte.true)
    ∙ c.read_const_or_call.ensures.part_read f

pub returns-then-has_byte-2-clause-part_read : goal.returns-then-has_byte-2-clause-part_read
unfolding word_form literal value_of
returns-then-has_byte-2-clause-part_read c = λ f. choice_lacks c.args.text.now c.args.at 99 _ _ (sym c.has_byte.ensures ∙ c.if-has_byte.false) refl
    ∙ choice_has c.args.text.now c.args.at 118 _ _ (sym c.has_byte-else-has_byte.ensures ∙ c.if-has_byte-2.true)
    ∙ c.read_rest.ensures.part_read f

pub returns-then-has_byte-3-clause-part_read : goal.returns-then-has_byte-3-clause-part_read
unfolding word_form literal value_of
returns-then-has_byte-3-clause-part_read c = λ f. choice_lacks c.args.text.now c.args.at 99 _ _ (sym c.has_byte.ensures ∙ c.if-has_byte.false) refl
    ∙ choice_lacks c.args.text.now c.args.at 118 _ _ (sym c.has_byte-else-has_byte.ensures ∙ c.if-has_byte-2.false) refl
    ∙ choice_has c.args.text.now c.args.at 116 _ _ (sym c.has_byte-else-has_byte-2.ensures ∙ c.if-has_byte-3.true)
    ∙ c.read_rest-then-has_byte-3.ensures.part_read f

pub returns-else-has_byte-3-clause-part_read : goal.returns-else-has_byte-3-clause-part_read
unfolding word_form literal value_of
returns-else-has_byte-3-clause-part_read c = λ f. choice_lacks c.args.text.now c.args.at 99 _ _ (sym c.has_byte.ensures ∙ c.if-has_byte.false) refl
    ∙ choice_lacks c.args.text.now c.args.at 118 _ _ (sym c.has_byte-else-has_byte.ensures ∙ c.if-has_byte-2.false) refl
    ∙ choice_lacks c.args.text.now c.args.at 116 _ _ (sym c.has_byte-else-has_byte-2.ensures ∙ c.if-has_byte-3.false) refl
    ∙ c.read_rest-else-has_byte-3.ensures.part_read f
