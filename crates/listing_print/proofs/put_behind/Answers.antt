-- The space, and the number behind it.
use Rattle.listing_print.proofs.Laying.{laid_then}
use Rattle.listing_print.proofs.put_behind.Goals as goal

pub returns : goal.returns
returns c = laid_then c.put_bytes-digits.ensures c.put_number.ensures
