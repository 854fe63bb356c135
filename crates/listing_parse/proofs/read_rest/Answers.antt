-- Whatever follows, it follows behind the letters.
use Rattle.listing.specs.Forms.{go_on}
use Rattle.listing_numbers.proofs.Stops.{stops}
use Rattle.listing_parse.proofs.read_rest.Goals as goal

pub returns-in_err-rest-clause-part_read : goal.returns-in_err-rest-clause-part_read
unfolding go_on
returns-in_err-rest-clause-part_read c = rw (stops c.from_residual.result c.in_err-rest.field-0.0 c.from_residual.ensures.1)
    (λ f. c.in_err-rest.ensures.part_read (λ k. f c.args.kind))

pub returns-clause-part_read : goal.returns-clause-part_read
unfolding go_on
returns-clause-part_read c = λ f. c.in_ok-rest.ensures.part_read (λ k. f c.args.kind)
