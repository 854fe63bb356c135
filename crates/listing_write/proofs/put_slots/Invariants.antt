-- After k turns the lines of the slots below k stand in the text.
use mathlib.Core.Path.{◌≡◌}
use lib.ListN.{length}
use Rattle.definitions.specs.Graph.{graph_of}
use Rattle.listing_print.specs.Laid.{Laid}
use Rattle.listing_write.specs.Parts.{slots_text}
use Rattle.listing_write.proofs.put_slots.Given as goal

abbrev pub invariant-loop-k : goal.invariant-loop-k
invariant-loop-k l = (length l.text ≡ length l.initial.text) × Laid l.at (slots_text (graph_of l.graph) l.k) l.initial.text l.text l.end
