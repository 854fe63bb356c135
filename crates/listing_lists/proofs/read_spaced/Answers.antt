use mathlib.Core.Path.{◌≡◌, refl, sym, ◌∙◌}
use mathlib.Core.Bool.{true, false, ◌&&◌}
use Prim.Native.Nat.{◌+◌}
use native.Mathlib.Numerals.{add-one}
use native.Mathlib.Omega.{arith}
use borrow.Author.Tests.{leb-true}
use lib.Dec.{leb, eqb}
use lib.ListN.{get_or, length-set}
use Rattle.listing.specs.Typing.{valued}
use Rattle.laws.proofs.Lists.{and_left, and_right}
use Rattle.listing_numbers.specs.State.{field_of}
use Rattle.listing_numbers.proofs.Stops.{stops}
use Rattle.listing_lists.specs.Lists.{Holds}
use Rattle.listing.proofs.Gathering.{got_well, stopped_well}
use Rattle.listing_lists.proofs.Gathers.{small_magnitude, gathers_none, gathers_over, gathers_ends, gathers_full, gathers_other, gathers_stops, gathers_more}
use Rattle.listing_lists.proofs.read_spaced.Goals.{then-count-most-via-then-count-most, then-count-most-via-else-count-most+then-c-ne32}
use Rattle.listing_lists.proofs.read_spaced.Goals as goal

pub loop-i-init : goal.loop-i-init
loop-i-init c = (c.requires.at_in_bounds.0, refl, gathers_none (field_of c.args.field) c.args.stop c.args.text.now c.args.least c.args.most c.args.at)

pub returns-then-ends_here-clause-holds : goal.returns-then-ends_here-clause-holds
unfolding Holds
returns-then-ends_here-clause-holds c = let holds : (leb c.args.least c.loop-i.count && eqb (get_or c.args.text.now c.loop-i.i 0) c.args.stop) ≡ true = sym c.ends_here.ensures ∙ c.if-ends_here.true in
    let low = leb-true c.args.least c.loop-i.count
    (and_left (leb c.args.least c.loop-i.count) (eqb (get_or c.args.text.now c.loop-i.i 0) c.args.stop) holds) in
    let same = and_right (leb c.args.least c.loop-i.count) (eqb (get_or c.args.text.now c.loop-i.i 0) c.args.stop) holds in
    let h = c.loop-i.invariant.2 in
    rw (gathers_ends c.requires.at_in_bounds.1 h (omega arith) low same)
    (record { count = sym h.counted; words = h.held; few = h.so_far.few; fits = h.fits }, add-one c.loop-i.i)

pub returns-then-count-most-clause-holds : goal.returns-then-count-most-clause-holds
unfolding Holds
returns-then-count-most-clause-holds c = let goes : (leb c.args.least c.loop-i.count && eqb (get_or c.args.text.now c.loop-i.i 0) c.args.stop) ≡ false = sym c.ends_here.ensures ∙ c.if-ends_here.false in
    elim c.then-count-most.branch [
      | then-count-most-via-then-count-most w ↦ rw (gathers_full c.requires.at_in_bounds.1 c.loop-i.invariant.2 (omega arith) goes w.if-count-most.true) refl
      | then-count-most-via-else-count-most+then-c-ne32 w ↦ rw (gathers_other c.requires.at_in_bounds.1 c.loop-i.invariant.2 (omega arith) goes w.if-count-most.false w.if-c-ne32.true) refl
    ]

pub returns-in_err-number-clause-holds : goal.returns-in_err-number-clause-holds
unfolding Holds
returns-in_err-number-clause-holds c = let goes : (leb c.args.least c.loop-i.count && eqb (get_or c.args.text.now c.loop-i.i 0) c.args.stop) ≡ false = sym c.ends_here.ensures ∙ c.if-ends_here.false in
    rw (
      stops c.from_residual.result c.in_err-number.field-0.0 c.from_residual.ensures.1,
      gathers_stops c.requires.at_in_bounds.1 c.loop-i.invariant.2 (omega arith) goes c.if-count-most.false c.if-c-ne32.false c.in_err-number.field-0.0.at (sym c.in_err-number.ensures),
    ) refl

pub returns-in_err-number-clause-next_in_bounds : goal.returns-in_err-number-clause-next_in_bounds
returns-in_err-number-clause-next_in_bounds c = rw (stops c.from_residual.result c.in_err-number.field-0.0 c.from_residual.ensures.1)
    (stopped_well (field_of c.args.field) c.args.text.now (c.loop-i.i + 1) (omega arith) c.in_err-number.field-0.0.at (sym c.in_err-number.ensures))

pub word_of-requires : goal.word_of-requires
word_of-requires c = let n = c.in_ok-number.number in
    let well = got_well (field_of c.args.field) c.args.text.now (c.loop-i.i + 1) (omega arith) (valued n.negative n.value) n.next (sym c.in_ok-number.ensures) in
    small_magnitude (field_of c.args.field) n.negative n.value c.requires.high_bound.0 c.requires.high_bound.1 well.0

pub loop-i-smaller : goal.loop-i-smaller
loop-i-smaller c = let n = c.in_ok-number.number in
    let well = got_well (field_of c.args.field) c.args.text.now (c.loop-i.i + 1) (omega arith) (valued n.negative n.value) n.next (sym c.in_ok-number.ensures) in
    omega (arith, well.1, well.2)

pub loop-i-preserved : goal.loop-i-preserved
loop-i-preserved c = let n = c.in_ok-number.number in
    let well = got_well (field_of c.args.field) c.args.text.now (c.loop-i.i + 1) (omega arith) (valued n.negative n.value) n.next (sym c.in_ok-number.ensures) in
    let goes : (leb c.args.least c.loop-i.count && eqb (get_or c.args.text.now c.loop-i.i 0) c.args.stop) ≡ false = sym c.ends_here.ensures ∙ c.if-ends_here.false in (
      well.2,
      simp length-set c.loop-i.invariant.1,
      gathers_more c.requires.at_in_bounds.1 c.loop-i.invariant.2 (omega arith) goes c.if-count-most.false c.if-c-ne32.false
          (valued n.negative n.value) n.next c.word_of.result c.word_of.ensures (sym c.in_ok-number.ensures) well.0 c.requires.at_in_bounds.2,
    )

pub returns-clause-holds : goal.returns-clause-holds
unfolding Holds
returns-clause-holds c = rw (gathers_over c.requires.at_in_bounds.1 c.loop-i.invariant.2 (omega arith)) refl
