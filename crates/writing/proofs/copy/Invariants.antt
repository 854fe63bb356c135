-- After i turns the first i bytes are those of the other block. At the end those are all.
use mathlib.Core.Path.{◌≡◌}
use lib.ListN.{length, take}
use Rattle.writing.proofs.copy.Given as goal

abbrev pub invariant-loop-i : goal.invariant-loop-i
invariant-loop-i l = (length l.to ≡ length l.from) × (take l.i l.to ≡ take l.i l.from)
