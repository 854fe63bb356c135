-- A refusal leaves both blocks as they came. Where the graph is sound and the list is as long as it has to be, both are written.
use mathlib.Core.Path.{◌≡◌, sym, ap, ◌∙◌, subst}
use mathlib.Core.List.{List}
use Prim.Native.Nat.{ℕ, ◌-◌, ◌*◌, ◌≤◌}
use native.Mathlib.Nat.{sub-zero}
use native.Mathlib.Omega.{arith}
use lib.ListN.{take}
use lib.Seq.{length-take-le}
use Rattle.definitions.specs.declared.Refusal.{Refusal}
use Rattle.std.specs.Prelude.{Err}
use Rattle.definitions.specs.Lists.{concat_map}
use Rattle.definitions.specs.Fields.{u16_bytes}
use Rattle.definitions.specs.Reply.{done}
use Rattle.definitions.specs.Graph.{slot_limit, graph_version, graph_of, graph_block, SoundGraph}
use Rattle.definitions.specs.Squeeze.{squeeze, moves_block, squeeze_reply, squeeze_graph, squeeze_moves}
use Rattle.laws.proofs.Reply.{done_plain, where_done_lem, where_refused}
use Rattle.laws.proofs.Operations.{squeeze_valueless}
use Rattle.graph_fields.specs.Layout.{WholeGraph}
use Rattle.graph_check.proofs.Readable.{graph_readable}
use Rattle.encoding.specs.Tables.{Table}
use Rattle.encoding.proofs.Graphs.{table_of}
use Rattle.graph_uses.specs.Countable.{CountableGraph}
use Rattle.graph_counts.specs.Recounted.{recounted}
use Rattle.graph_counts.proofs.Laws.{made_countable, made-recounted}
use Rattle.tidying.proofs.Squeezed.{squeezed_table}
use Rattle.graph_squeeze.proofs.Outcome.{squeeze-good, moves_bytes}
use Rattle.graph_squeeze.proofs.squeeze.Goals as goal

-- what stands in both blocks after a refusal, and where all is done
after-refusal : (graph moves : List ℕ) → {why : Refusal} → squeeze_reply graph moves ≡ Err why
    → (graph ≡ squeeze_graph graph moves) × (moves ≡ squeeze_moves graph moves)
unfolding squeeze_graph squeeze_moves
after-refusal graph moves e = (
  sym (where_refused (graph_block (squeeze (graph_of graph))) graph e),
  sym (where_refused (moves_block (graph_of graph)) moves e),
)

after-done : (graph moves : List ℕ) → squeeze_reply graph moves ≡ done
    → (graph_block (squeeze (graph_of graph)) ≡ squeeze_graph graph moves) × (moves_block (graph_of graph) ≡ squeeze_moves graph moves)
unfolding squeeze_graph squeeze_moves
after-done graph moves e = (
  sym (where_done_lem (graph_block (squeeze (graph_of graph))) graph e),
  sym (where_done_lem (moves_block (graph_of graph)) moves e),
)

pub slot_count-slots-requires : goal.slot_count-slots-requires
slot_count-slots-requires c = let good : squeeze_reply c.args.graph.now c.args.moves.now ≡ done = done_plain (squeeze_valueless c.args.graph.now c.args.moves.now) (sym c.in_ok-check_both.ensures) in
    let sound : SoundGraph c.args.graph.now = (squeeze-good c.args.graph.now c.args.moves.now good).0 in
    let whole : WholeGraph c.args.graph.now = (graph_readable c.args.graph.now sound).whole in
    omega (arith, whole.size)

pub moves_of-plan-requires : goal.moves_of-plan-requires
moves_of-plan-requires c = let good : squeeze_reply c.args.graph.now c.args.moves.now ≡ done = done_plain (squeeze_valueless c.args.graph.now c.args.moves.now) (sym c.in_ok-check_both.ensures) in
    let sound : SoundGraph c.args.graph.now = (squeeze-good c.args.graph.now c.args.moves.now good).0 in
    let whole : WholeGraph c.args.graph.now = (graph_readable c.args.graph.now sound).whole in
    whole

pub store_counts-requires : goal.store_counts-requires
store_counts-requires c = let good : squeeze_reply c.args.graph.now c.args.moves.now ≡ done = done_plain (squeeze_valueless c.args.graph.now c.args.moves.now) (sym c.in_ok-check_both.ensures) in
    let sound : SoundGraph c.args.graph.now = (squeeze-good c.args.graph.now c.args.moves.now good).0 in
    let after : Table (squeeze (graph_of c.args.graph.now)) = squeezed_table (graph_of c.args.graph.now) (table_of c.args.graph.now sound) in
    subst CountableGraph (sym c.move_vertices.ensures) (made_countable graph_version (λ i. 0) (squeeze (graph_of c.args.graph.now)) after)

pub slice_bounds-put_numbers-end : goal.slice_bounds-put_numbers-end
slice_bounds-put_numbers-end c = let good : squeeze_reply c.args.graph.now c.args.moves.now ≡ done = done_plain (squeeze_valueless c.args.graph.now c.args.moves.now) (sym c.in_ok-check_both.ensures) in
    let sound : SoundGraph c.args.graph.now = (squeeze-good c.args.graph.now c.args.moves.now good).0 in
    let whole : WholeGraph c.args.graph.now = (graph_readable c.args.graph.now sound).whole in
    omega (arith, c.moves_of-plan.ensures.to_size, c.moves_of-plan.ensures.from_size, c.slot_count-slots.ensures.0, whole.slots)

pub put_numbers-requires : goal.put_numbers-requires
put_numbers-requires c = let good : squeeze_reply c.args.graph.now c.args.moves.now ≡ done = done_plain (squeeze_valueless c.args.graph.now c.args.moves.now) (sym c.in_ok-check_both.ensures) in
    let sound : SoundGraph c.args.graph.now = (squeeze-good c.args.graph.now c.args.moves.now good).0 in
    let whole : WholeGraph c.args.graph.now = (graph_readable c.args.graph.now sound).whole in
    let few : c.slot_count-slots.result - 0 ≤ slot_limit = omega (arith, c.slot_count-slots.ensures.0, whole.slots) in
    (squeeze-good c.args.graph.now c.args.moves.now good).1
    ∙ ap (λ k. 2 * k) (sym c.slot_count-slots.ensures.0 ∙ sym (sub-zero c.slot_count-slots.result) ∙ sym (length-take-le _ _ (omega (arith, few, c.moves_of-plan.ensures.to_size, c.moves_of-plan.ensures.from_size))))

pub returns-in_err-check_both-clause-graph_after : goal.returns-in_err-check_both-clause-graph_after
returns-in_err-check_both-clause-graph_after c = let told = sym c.in_err-check_both.ensures in
    let left = after-refusal c.args.graph.now c.args.moves.now told in left.0

pub returns-in_err-check_both-clause-moves_after : goal.returns-in_err-check_both-clause-moves_after
returns-in_err-check_both-clause-moves_after c = let told = sym c.in_err-check_both.ensures in
    let left = after-refusal c.args.graph.now c.args.moves.now told in left.1

pub move_vertices-requires-clause-sound_graph : goal.move_vertices-requires-clause-sound_graph
move_vertices-requires-clause-sound_graph c = let good : squeeze_reply c.args.graph.now c.args.moves.now ≡ done = done_plain (squeeze_valueless c.args.graph.now c.args.moves.now) (sym c.in_ok-check_both.ensures) in
    let sound : SoundGraph c.args.graph.now = (squeeze-good c.args.graph.now c.args.moves.now good).0 in
    sound

pub returns-clause-value : goal.returns-clause-value
returns-clause-value c = let good : squeeze_reply c.args.graph.now c.args.moves.now ≡ done = done_plain (squeeze_valueless c.args.graph.now c.args.moves.now) (sym c.in_ok-check_both.ensures) in
    let sound : SoundGraph c.args.graph.now = (squeeze-good c.args.graph.now c.args.moves.now good).0 in
    let after : Table (squeeze (graph_of c.args.graph.now)) = squeezed_table (graph_of c.args.graph.now) (table_of c.args.graph.now sound) in
    let whole : WholeGraph c.args.graph.now = (graph_readable c.args.graph.now sound).whole in
    let g = graph_of c.args.graph.now in
    let left = after-done c.args.graph.now c.args.moves.now good in sym good

pub returns-clause-graph_after : goal.returns-clause-graph_after
returns-clause-graph_after c = let good : squeeze_reply c.args.graph.now c.args.moves.now ≡ done = done_plain (squeeze_valueless c.args.graph.now c.args.moves.now) (sym c.in_ok-check_both.ensures) in
    let sound : SoundGraph c.args.graph.now = (squeeze-good c.args.graph.now c.args.moves.now good).0 in
    let after : Table (squeeze (graph_of c.args.graph.now)) = squeezed_table (graph_of c.args.graph.now) (table_of c.args.graph.now sound) in
    let whole : WholeGraph c.args.graph.now = (graph_readable c.args.graph.now sound).whole in
    let g = graph_of c.args.graph.now in
    let left = after-done c.args.graph.now c.args.moves.now good in c.store_counts.ensures ∙ ap recounted c.move_vertices.ensures ∙ made-recounted graph_version (λ i. 0) (squeeze g) after ∙ left.0

pub returns-clause-moves_after : goal.returns-clause-moves_after
returns-clause-moves_after c = let good : squeeze_reply c.args.graph.now c.args.moves.now ≡ done = done_plain (squeeze_valueless c.args.graph.now c.args.moves.now) (sym c.in_ok-check_both.ensures) in
    let sound : SoundGraph c.args.graph.now = (squeeze-good c.args.graph.now c.args.moves.now good).0 in
    let after : Table (squeeze (graph_of c.args.graph.now)) = squeezed_table (graph_of c.args.graph.now) (table_of c.args.graph.now sound) in
    let whole : WholeGraph c.args.graph.now = (graph_readable c.args.graph.now sound).whole in
    let g = graph_of c.args.graph.now in
    let left = after-done c.args.graph.now c.args.moves.now good in c.put_numbers.ensures
    ∙ ap (λ k. concat_map u16_bytes (take k c.moves_of-plan.result.to)) (sub-zero c.slot_count-slots.result ∙ c.slot_count-slots.ensures.0)
    ∙ moves_bytes c.args.graph.now c.moves_of-plan.result.count c.moves_of-plan.result.from c.moves_of-plan.result.to whole.slots c.moves_of-plan.ensures
    ∙ left.1
