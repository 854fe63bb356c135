-- The header counts as many outputs as the graph has.
use mathlib.Core.Path.{sym, ◌∙◌}
use borrow.Author.Rules.{rules}
use Rattle.definitions.specs.Graph.{output_limit, unused_place, graph_of}
use Rattle.laws.proofs.Graph.{length-outputs}
use Rattle.padding.proofs.Mapped.{padded_map}
use Rattle.redirection.specs.Moves.{moved}
use Rattle.new_places.proofs.new_outputs.Goals as goal

pub returns : goal.returns
returns c = padded_map output_limit (moved c.args.way) (graph_of c.args.graph.now).outputs unused_place
    (length-outputs c.args.graph.now ∙ sym c.output_count-count.ensures.0) c.padded.ensures (λ i l x p. search rules)
