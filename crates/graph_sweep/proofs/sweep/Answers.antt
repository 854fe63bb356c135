-- A refusal is the check's, and leaves the graph as it came. Where the check is done the graph is sound, and what the two passes leave is
-- the definition's block.
use mathlib.Core.Path.{◌≡◌, sym, ap, ◌∙◌, subst}
use Rattle.definitions.specs.Reply.{done}
use Rattle.definitions.specs.Graph.{graph_version, graph_of, graph_block, graph_reply, SoundGraph}
use Rattle.definitions.specs.Sweep.{sweep, sweep_graph}
use Rattle.laws.proofs.Reply.{done_plain, where_done_lem, where_refused}
use Rattle.laws.proofs.Operations.{graph_valueless}
use Rattle.graph_check.proofs.Sound.{only_sound}
use Rattle.encoding.specs.Tables.{Table}
use Rattle.encoding.proofs.Graphs.{table_of}
use Rattle.graph_uses.specs.Countable.{CountableGraph}
use Rattle.graph_counts.specs.Recounted.{recounted}
use Rattle.graph_counts.proofs.Laws.{made_countable, made-recounted}
use Rattle.tidying.proofs.Swept.{swept_table}
use Rattle.graph_sweep.specs.Emptied.{old_counts}
use Rattle.graph_sweep.proofs.sweep.Goals as goal

pub find_unneeded-unneeded-requires : goal.find_unneeded-unneeded-requires
find_unneeded-unneeded-requires c = let good : graph_reply c.args.graph.now ≡ done = done_plain (graph_valueless c.args.graph.now) (sym c.in_ok-check.ensures) in
    let sound : SoundGraph c.args.graph.now = only_sound c.args.graph.now good in
    sound

pub store_counts-requires : goal.store_counts-requires
store_counts-requires c = let good : graph_reply c.args.graph.now ≡ done = done_plain (graph_valueless c.args.graph.now) (sym c.in_ok-check.ensures) in
    let sound : SoundGraph c.args.graph.now = only_sound c.args.graph.now good in
    let after : Table (sweep (graph_of c.args.graph.now)) = swept_table (graph_of c.args.graph.now) (table_of c.args.graph.now sound) in
    subst CountableGraph (sym c.empty_slots.ensures)
    (made_countable graph_version (old_counts (graph_of c.args.graph.now)) (sweep (graph_of c.args.graph.now)) after)

pub returns-in_err-check-clause-graph_after : goal.returns-in_err-check-clause-graph_after
unfolding sweep_graph
returns-in_err-check-clause-graph_after c = let refused = sym c.in_err-check.ensures in sym (where_refused (graph_block (sweep (graph_of c.args.graph.now))) c.args.graph.now refused)

pub empty_slots-requires-clause-sound_graph : goal.empty_slots-requires-clause-sound_graph
empty_slots-requires-clause-sound_graph c = let good : graph_reply c.args.graph.now ≡ done = done_plain (graph_valueless c.args.graph.now) (sym c.in_ok-check.ensures) in
    let sound : SoundGraph c.args.graph.now = only_sound c.args.graph.now good in
    sound

pub returns-clause-value : goal.returns-clause-value
unfolding sweep_graph
returns-clause-value c = let good : graph_reply c.args.graph.now ≡ done = done_plain (graph_valueless c.args.graph.now) (sym c.in_ok-check.ensures) in
    let sound : SoundGraph c.args.graph.now = only_sound c.args.graph.now good in
    let after : Table (sweep (graph_of c.args.graph.now)) = swept_table (graph_of c.args.graph.now) (table_of c.args.graph.now sound) in
    let g = graph_of c.args.graph.now in sym good

pub returns-clause-graph_after : goal.returns-clause-graph_after
unfolding sweep_graph
returns-clause-graph_after c = let good : graph_reply c.args.graph.now ≡ done = done_plain (graph_valueless c.args.graph.now) (sym c.in_ok-check.ensures) in
    let sound : SoundGraph c.args.graph.now = only_sound c.args.graph.now good in
    let after : Table (sweep (graph_of c.args.graph.now)) = swept_table (graph_of c.args.graph.now) (table_of c.args.graph.now sound) in
    let g = graph_of c.args.graph.now in c.store_counts.ensures ∙ ap recounted c.empty_slots.ensures ∙ made-recounted graph_version (old_counts g) (sweep g) after
    ∙ sym (where_done_lem (graph_block (sweep g)) c.args.graph.now good)
