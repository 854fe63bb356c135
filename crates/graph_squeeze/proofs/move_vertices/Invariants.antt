-- Below slot k the block is the squeezed one, behind the old header, and from slot k on it is the old one.
use mathlib.Core.List.{◌++◌}
use lib.ListN.{take, drop}
use Rattle.definitions.specs.Graph.{header_bytes, graph_version, graph_of, block_as}
use Rattle.definitions.specs.Squeeze.{squeeze}
use Rattle.graph_slots.specs.Written.{Halfway}
use Rattle.graph_squeeze.proofs.move_vertices.Given as goal

abbrev pub invariant-loop-k : goal.invariant-loop-k
invariant-loop-k l = Halfway l.k l.graph (take header_bytes l.initial.graph ++ drop header_bytes (block_as graph_version (λ i. 0) (squeeze (graph_of l.initial.graph)))) l.initial.graph
