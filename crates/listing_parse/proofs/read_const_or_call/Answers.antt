-- The second letter tells the two words apart.
use mathlib.Core.Path.{sym, ◌∙◌, refl}
use native.Mathlib.Omega.{arith}
use Rattle.listing.specs.Forms.{value_of}
use Rattle.listing.specs.Grammar.{literal}
use Rattle.listing_parse.proofs.Chains.{has_inside, choice_has, choice_lacks}
use Rattle.listing_parse.proofs.read_const_or_call.Goals as goal

pub read_rest-requires : goal.read_rest-requires
read_rest-requires c = omega (arith, has_inside _ _ 111 (sym c.has_byte.ensures ∙ c.if-has_byte.true))

pub returns-then-has_byte-clause-part_read : goal.returns-then-has_byte-clause-part_read
unfolding literal
returns-then-has_byte-clause-part_read c = λ f. choice_has c.args.text.now c.args.at 111 _ _ (sym c.has_byte.ensures ∙ c.if-has_byte.true)
    ∙ c.read_rest.ensures.part_read f

pub returns-else-has_byte-clause-part_read : goal.returns-else-has_byte-clause-part_read
unfolding literal value_of
returns-else-has_byte-clause-part_read c = λ f. choice_lacks c.args.text.now c.args.at 111 _ _ (sym c.has_byte.ensures ∙ c.if-has_byte.false) refl
    ∙ c.read_rest-else-has_byte.ensures.part_read f
