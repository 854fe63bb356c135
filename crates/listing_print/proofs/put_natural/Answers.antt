-- Where the digits fit they are written into their part of the text.
use native.Mathlib.Omega.{arith}
use Rattle.listing_print.proofs.Laying.{laid_part}
use Rattle.listing_print.proofs.put_natural.Goals as goal

pub returns : goal.returns
returns c = laid_part (omega (arith, c.digit_count.ensures)) c.put_decimal.ensures
