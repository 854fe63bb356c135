-- The measure is what is left of the text.
use Rattle.std.proofs.Common.{length}
use Rattle.worked_examples.proofs.calls.append.Given as goal

abbrev pub decreases-loop-first : goal.decreases-loop-first
decreases-loop-first l = length l.rest
