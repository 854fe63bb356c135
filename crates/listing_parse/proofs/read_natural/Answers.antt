-- A number of the field is read, and none of it is negative.
use mathlib.Core.Path.{sym}
use Rattle.listing.proofs.Gathering.{got_well, stopped_well}
use Rattle.listing_numbers.specs.State.{field_of}
use Rattle.listing_numbers.proofs.Stops.{stops}
use Rattle.listing.specs.Typing.{valued}
use Rattle.listing_parse.proofs.Naturals.{natural_stops, natural_value, natural_goes}
use Rattle.listing_parse.proofs.read_natural.Goals as goal

pub returns-in_err-number-clause-part_read : goal.returns-in_err-number-clause-part_read
returns-in_err-number-clause-part_read c = rw (stops c.from_residual.result c.in_err-number.field-0.0 c.from_residual.ensures.1)
    (natural_stops (field_of c.args.field) c.args.text.now c.args.at c.in_err-number.field-0.0.at (sym c.in_err-number.ensures))

pub returns-in_err-number-clause-next_in_bounds : goal.returns-in_err-number-clause-next_in_bounds
returns-in_err-number-clause-next_in_bounds c = rw (stops c.from_residual.result c.in_err-number.field-0.0 c.from_residual.ensures.1)
    (stopped_well (field_of c.args.field) c.args.text.now c.args.at c.requires.at_in_bounds c.in_err-number.field-0.0.at (sym c.in_err-number.ensures))

pub returns-clause-part_read : goal.returns-clause-part_read
returns-clause-part_read c = let F = field_of c.args.field in
    let n = c.in_ok-number.number in
    let well = got_well F c.args.text.now c.args.at c.requires.at_in_bounds (valued n.negative n.value) n.next (sym c.in_ok-number.ensures) in
    natural_goes F c.args.text.now c.args.at n.negative n.value n.next (natural_value F c.args.text.now c.args.at n.negative n.value c.requires.below_value well.0).0 (sym c.in_ok-number.ensures)

pub returns-clause-next_in_bounds : goal.returns-clause-next_in_bounds
returns-clause-next_in_bounds c = let n = c.in_ok-number.number in
    (got_well (field_of c.args.field) c.args.text.now c.args.at c.requires.at_in_bounds (valued n.negative n.value) n.next (sym c.in_ok-number.ensures)).2

pub returns-clause-high_value : goal.returns-clause-high_value
returns-clause-high_value c = let F = field_of c.args.field in
    let n = c.in_ok-number.number in
    let well = got_well F c.args.text.now c.args.at c.requires.at_in_bounds (valued n.negative n.value) n.next (sym c.in_ok-number.ensures) in
    (natural_value F c.args.text.now c.args.at n.negative n.value c.requires.below_value well.0).1
