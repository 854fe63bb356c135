-- The loop's invariant: the words are those of the numbers read so far, and what is left of the text is read on from there.
use mathlib.Core.Path.{◌≡◌}
use Prim.Native.Nat.{◌-◌, ◌≤◌}
use lib.ListN.{length}
use Rattle.listing_numbers.specs.State.{field_of}
use Rattle.listing_lists.specs.Lists.{list_limit}
use Rattle.listing_lists.proofs.Gathers.{Gathers}
use Rattle.listing_lists.proofs.read_spaced.Given as goal

abbrev pub invariant-loop-i : goal.invariant-loop-i
invariant-loop-i l = (l.i ≤ length l.text) × (length l.words ≡ list_limit) × Gathers (field_of l.field) l.stop l.text l.least l.most l.at l.i l.count l.words

abbrev pub decreases-loop-i : goal.decreases-loop-i
decreases-loop-i l = length l.text - l.i
