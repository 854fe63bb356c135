-- Every turn passes the slots up to the next candidate, or has the least match.
use Prim.Native.Nat.{◌-◌}
use Rattle.definitions.specs.Graph.{graph_of}
use Rattle.rule_fields.specs.Fixed.{fixed_of}
use Rattle.match_look.specs.Head.{head_in}
use Rattle.match_outputs.proofs.Steps.{AtCandidate, Blank}
use Rattle.match_outputs.proofs.search_one.Given as goal

abbrev pub invariant-loop-slot : goal.invariant-loop-slot
invariant-loop-slot l =
    AtCandidate (graph_of l.graph) (fixed_of l.rule) l.root l.start (head_in l.head) l.slots l.slot × Blank (fixed_of l.rule) l.images

abbrev pub decreases-loop-slot : goal.decreases-loop-slot
decreases-loop-slot l = l.slots - l.slot
