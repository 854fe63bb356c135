-- The graph's reply comes first, and then the list's.
use mathlib.Core.Path.{◌∙◌}
use Rattle.graph_squeeze.proofs.Outcome.{both_first}
use Rattle.graph_squeeze.proofs.check_both.Goals as goal

pub returns : goal.returns
returns c = c.first_refusal.ensures
    ∙ both_first c.args.graph.now c.args.moves.now c.check-found.result c.check_moves-listed.result c.check-found.ensures c.check_moves-listed.ensures
