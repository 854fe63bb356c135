-- After i turns the first i numbers are written. At the end those are all.
use mathlib.Core.Path.{◌≡◌}
use Prim.Native.Nat.{◌*◌}
use lib.ListN.{length, take}
use Rattle.definitions.specs.Lists.{concat_map}
use Rattle.writing.proofs.put_numbers.Given as goal

abbrev pub invariant-loop-i : goal.invariant-loop-i
invariant-loop-i g l = (length l.part ≡ g.row.W * length l.numbers) × (take (g.row.W * l.i) l.part ≡ concat_map g.T.Stored.bytes (take l.i l.numbers))
