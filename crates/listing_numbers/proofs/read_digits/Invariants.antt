-- The loop's invariant: the digits up to here are typed. Every fallback answers as the loop that asks at each byte.
use mathlib.Core.Bool.{false}
use Rattle.listing.specs.Typing.{digits_of}
use Rattle.listing_numbers.proofs.Plain.{TypedUpTo}
use Rattle.listing_numbers.proofs.read_digits.Given as goal

abbrev pub invariant-loop-i : goal.invariant-loop-i
invariant-loop-i l = TypedUpTo (record { low = l.low; high = l.high; below = l.below }) l.text l.at l.i (digits_of false l.value)
