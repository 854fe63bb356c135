-- The measures: an input is lower than its vertex, which has at most 6 inputs, so 9 to a vertex leave room for its inputs, for itself as a
-- candidate, and for the look before that.
use Prim.Native.Nat.{◌+◌, ◌-◌, ◌*◌}
use Rattle.matching.proofs.+match_candidate_match_inputs_match_vertex.Given as goal

abbrev pub decreases-match_candidate : goal.decreases-match_candidate
decreases-match_candidate l = l.j * 9 + 7

abbrev pub decreases-match_inputs : goal.decreases-match_inputs
decreases-match_inputs l = l.j * 9 + (6 - l.i)

abbrev pub decreases-match_vertex : goal.decreases-match_vertex
decreases-match_vertex l = l.j * 9 + 8
