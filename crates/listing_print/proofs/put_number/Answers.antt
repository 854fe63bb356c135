-- A minus before a negative number, and its digits.
use mathlib.Core.Path.{sym}
use mathlib.Core.List.{[], ◌∷◌}
use Prim.Native.Nat.{◌+◌, ◌-◌, ◌^◌, ◌≤◌}
use native.Mathlib.Omega.{arith}
use lib.ListN.{length}
use Rattle.definitions.specs.Numerals.{minus_sign, decimal}
use Rattle.listing_print.specs.Laid.{text_limit}
use Rattle.listing_print.proofs.Laying.{laid_then, laid_as, room-first, room_next}
use Rattle.listing_print.proofs.Numbers.{numeral_plus, numeral_minus}
use Rattle.listing_print.proofs.put_number.Goals as goal

pub returns-then-number-lt2147483648 : goal.returns-then-number-lt2147483648
returns-then-number-lt2147483648 c = laid_as (sym (numeral_plus c.args.number (omega (arith, c.if-number-lt2147483648.true)))) c.put_natural.ensures

pub put_bytes-digits-requires : goal.put_bytes-digits-requires
put_bytes-digits-requires c = room-first (minus_sign ∷ []) (decimal (2 ^ 32 - c.args.number)) _ (let room : c.args.at + length (minus_sign ∷ decimal (2 ^ 32 - c.args.number)) ≤ text_limit = rw (numeral_minus c.args.number (omega arith) (omega arith)) at c.requires in room)

pub returns : goal.returns
returns c = laid_as (sym (numeral_minus c.args.number (omega (arith, c.if-number-lt2147483648.false)) (omega arith))) (laid_then c.put_bytes-digits.ensures c.put_natural-2.ensures)

pub put_natural-requires-clause-n_bound_2 : goal.put_natural-requires-clause-n_bound_2
put_natural-requires-clause-n_bound_2 c = rw (numeral_plus c.args.number (omega arith)) at c.requires

pub put_natural-requires-2-clause-n_bound_2 : goal.put_natural-requires-2-clause-n_bound_2
put_natural-requires-2-clause-n_bound_2 c = room_next (minus_sign ∷ []) (decimal (2 ^ 32 - c.args.number)) _ ((let room : c.args.at + length (minus_sign ∷ decimal (2 ^ 32 - c.args.number)) ≤ text_limit = rw (numeral_minus c.args.number (omega (arith, c.if-number-lt2147483648.false)) (omega arith)) at c.requires in room)) c.put_bytes-digits.ensures
