use mathlib.Core.Path.{◌≡◌, sym, ◌∙◌}
use mathlib.Core.Bool.{true}
use Prim.Native.Nat.{◌≤◌}
use native.Mathlib.Omega.{arith}
use lib.ListN.{get_or}
use Rattle.listing.specs.Typing.{is_digit}
use Rattle.listing.proofs.Reach.{within_low}
use Rattle.listing_numbers.specs.State.{field_of}
use Rattle.listing_numbers.proofs.Stages.{digit_low}
use Rattle.listing_numbers.proofs.Plain.{digit-first, digit_more, digits-end}
use Rattle.listing_numbers.proofs.read_digits.Goals as goal

pub loop-i-init : goal.loop-i-init
loop-i-init c = let F = field_of c.args.field in
    digit-first F c.args.text.now c.args.at c.requires.field_fits c.requires.at_in_bounds c.requires.at_value c.args.first c.requires.first_value

pub returns-then-is_within : goal.returns-then-is_within
returns-then-is_within c = digits-end (field_of c.args.field) c.args.text.now c.args.at c.loop-i.i c.loop-i.value (omega arith) c.loop-i.invariant
    (sym c.is_within.ensures ∙ c.if-is_within.true)
    (sym c.is_numeric.ensures ∙ c.if-not-is_numeric.true)

pub overflow_sub-c : goal.overflow_sub-c
overflow_sub-c c = digit_low _ (sym c.is_digit.ensures ∙ c.if-not-is_digit.false)

pub loop-i-preserved : goal.loop-i-preserved
loop-i-preserved c = let digit-here : is_digit (get_or c.args.text.now c.loop-i.i 0) ≡ true = sym c.is_digit.ensures ∙ c.if-not-is_digit.false in
    let from_one : 1 ≤ c.loop-i.value = within_low 1 c.loop-i.value 99999999 (sym c.is_within-in-loop-i.ensures ∙ c.if-not-is_within.false) in
    digit_more (field_of c.args.field) c.args.text.now c.args.at c.loop-i.i c.loop-i.value (omega arith) c.loop-i.invariant c.requires.field_fits
    digit-here from_one c.from.result c.from.ensures
