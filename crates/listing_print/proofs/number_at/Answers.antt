-- A wide number is the word itself, and another is below 65536.
use mathlib.Core.Path.{◌∙◌, ap}
use native.Mathlib.Omega.{arith}
use lib.IntN.{pos}
use Rattle.definitions.specs.Fields.{signed}
use Rattle.listing_print.specs.Rows.{number_in}
use Rattle.listing_print.proofs.Numbers.{signed_plus}
use Rattle.listing_print.proofs.number_at.Goals as goal

pub returns-then-wide : goal.returns-then-wide
unfolding number_in
returns-then-wide c = rw c.if-wide.true (ap signed c.u32_at.ensures.0)

pub returns : goal.returns
unfolding number_in
returns c = rw c.if-wide.false (signed_plus c.u16_at.result (omega (arith, c.u16_at.ensures.1)) ∙ ap pos c.u16_at.ensures.0)
