use mathlib.Core.Path.{◌≡◌, refl, sym, ap, ◌∙◌}
use native.Mathlib.Omega.{arith}
use lib.ListN.{length}
use Rattle.listing.specs.Typing.{stopped}
use Rattle.listing_numbers.specs.State.{field_of, typed_of, after_byte}
use Rattle.listing_numbers.proofs.Stages.{reading_over, reading_ends, reading_stops, reading_goes}
use Rattle.listing_numbers.proofs.read_bytewise.Goals as goal

pub loop-i-init : goal.loop-i-init
loop-i-init c = (omega arith, refl)

pub returns-then-not-is_numeric : goal.returns-then-not-is_numeric
returns-then-not-is_numeric c = c.ended.ensures
    ∙ reading_ends (field_of c.args.field) c.args.text.now c.args.at c.loop-i.i (typed_of c.loop-i.typing) c.loop-i.invariant.1 (omega arith)
    (sym c.is_numeric.ensures ∙ c.if-not-is_numeric.true)

pub returns-in_default : goal.returns-in_default
unfolding after_byte
returns-in_default c = reading_stops (field_of c.args.field) c.args.text.now c.args.at c.loop-i.i (typed_of c.loop-i.typing) c.loop-i.invariant.1 (omega arith)
    (sym c.is_numeric.ensures ∙ c.if-not-is_numeric.false) (sym c.in_default.ensures.value_value)

pub loop-i-preserved : goal.loop-i-preserved
unfolding after_byte
loop-i-preserved c = (
  c.in-Some.ensures.value_bound_2,
  reading_goes (field_of c.args.field) c.args.text.now c.args.at c.loop-i.i (typed_of c.loop-i.typing) c.loop-i.invariant.1 (omega arith)
      (sym c.is_numeric.ensures ∙ c.if-not-is_numeric.false) (typed_of c.in-Some.next) (sym c.in-Some.ensures.value_value),
)

pub returns : goal.returns
returns c = let over : length c.args.text.now ≡ c.loop-i.i = omega arith in
    ap stopped over ∙ reading_over (field_of c.args.field) c.args.text.now c.args.at c.loop-i.i (typed_of c.loop-i.typing) c.loop-i.invariant.1 (omega arith)
