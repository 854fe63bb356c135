-- Where the bytes fit they are copied into their part of the text.
use mathlib.Core.Path.{refl}
use Rattle.listing_print.proofs.Laying.{laid_part}
use Rattle.listing_print.proofs.put_bytes.Goals as goal

pub returns : goal.returns
returns c = laid_part refl c.copy.ensures
