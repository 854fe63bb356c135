-- The loop's invariant: what is left of the text is read on from what has been read, whose digits are few.
use Prim.Native.Nat.{◌^◌, ◌<◌}
use Rattle.listing_numbers.specs.State.{field_of, typed_of, digits_in}
use Rattle.listing_numbers.proofs.Stages.{Reading}
use Rattle.listing_numbers.proofs.read_bytewise.Given as goal

abbrev pub invariant-loop-i : goal.invariant-loop-i
invariant-loop-i l = (digits_in l.typing < 10 ^ 10) × Reading (field_of l.field) l.text l.at l.i (typed_of l.typing)
