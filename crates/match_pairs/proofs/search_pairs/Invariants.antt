-- The nested search: every step passes one more choice of output images, or has the least match.
use mathlib.Core.Path.{◌≡◌}
use Prim.Native.Nat.{◌-◌}
use Rattle.std.specs.Prelude.{None}
use Rattle.definitions.specs.Graph.{graph_of}
use Rattle.rule_fields.specs.Fixed.{fixed_of}
use Rattle.match_look.specs.Head.{head_in}
use Rattle.match_outputs.proofs.Steps.{AtCandidate, Blank, Rooted}
use Rattle.match_pairs.proofs.Pairs.{Left}
use Rattle.match_pairs.proofs.search_pairs.Given as goal

abbrev pub invariant-loop-k : goal.invariant-loop-k
invariant-loop-k l =
    Left (graph_of l.graph) (fixed_of l.rule) l.root l.last l.first l.candidates.slots l.candidates.count l.k
    × Rooted (graph_of l.graph) (fixed_of l.rule) l.root l.first l.images × Blank (fixed_of l.rule) l.images × (l.found ≡ None)

abbrev pub invariant-search : goal.invariant-search
invariant-search l =
    AtCandidate (graph_of l.graph) (fixed_of l.rule) l.root l.start (head_in l.head) l.slots l.first
    × Blank (fixed_of l.rule) l.images × (l.found ≡ None)

abbrev pub decreases-search : goal.decreases-search
decreases-search l = l.slots - l.first
