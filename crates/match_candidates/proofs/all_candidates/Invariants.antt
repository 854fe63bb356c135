-- The slots below v that pass the look are listed.
use Rattle.definitions.specs.Graph.{graph_of}
use Rattle.match_look.specs.Head.{head_in}
use Rattle.match_look.specs.Candidate.{passes_look}
use Rattle.match_candidates.specs.Listed.{Listed}
use Rattle.match_candidates.proofs.all_candidates.Given as goal

abbrev pub invariant-loop-v : goal.invariant-loop-v
invariant-loop-v l = Listed (passes_look (head_in l.head) (graph_of l.graph)) l.v l.slots l.count
