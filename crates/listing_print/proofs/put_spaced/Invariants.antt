-- After i turns the numbers from the first up to number i stand in the text.
use mathlib.Core.Path.{◌≡◌}
use Prim.Native.Nat.{◌≤◌}
use lib.ListN.{length}
use lib.Seq.{slice}
use Rattle.definitions.specs.Sheet.{spaced}
use Rattle.listing_print.specs.Laid.{Laid}
use Rattle.listing_print.specs.Rows.{numbers_in}
use Rattle.listing_print.proofs.put_spaced.Given as goal

abbrev pub invariant-loop-i : goal.invariant-loop-i
invariant-loop-i l = (l.first ≤ l.i) × (length l.text ≡ length l.initial.text) × Laid l.at (spaced (slice l.first l.i (numbers_in l.block l.row))) l.initial.text l.text l.end
