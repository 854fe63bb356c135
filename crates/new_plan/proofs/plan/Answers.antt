-- Each stage is asked only where the ones before it passed, and answers as the definition does. The new table's block stands for the
-- new table, so that its cycle is the one that the block is searched for.
use mathlib.Core.Path.{◌≡◌, refl, sym, ap, ◌∙◌, subst}
use mathlib.Core.Bool.{true}
use mathlib.Core.List.{List}
use Prim.Native.Nat.{ℕ, ◌≤◌}
use native.Mathlib.Omega.{arith}
use Rattle.std.specs.Prelude.{Ok}
use Rattle.definitions.specs.Reply.{no_result, no_room, new_cycle, refusal}
use Rattle.definitions.specs.Graph.{graph_version, Graph, graph_of, has_cycle}
use Rattle.definitions.specs.Rule.{target_count}
use Rattle.definitions.specs.Rewriting.{free_slots}
use Rattle.rule_fields.specs.Fixed.{fixed_of}
use Rattle.laws.proofs.Graph.{length-slots}
use Rattle.graph_check.proofs.Readable.{graph_readable}
use Rattle.rule_sound.proofs.Working.{output-counts}
use Rattle.encoding.specs.Tables.{Table}
use Rattle.encoding.proofs.Blocks.{block_readable, block_closed, block_cycle, holdable}
use Rattle.graph_fields.specs.Layout.{ReadableGraph, Closed}
use Rattle.graph_uses.specs.Countable.{CountableGraph}
use Rattle.graph_counts.specs.Recounted.{recounted}
use Rattle.graph_counts.proofs.Laws.{made_countable, made-recounted}
use Rattle.target_attributes.specs.Words.{is_given}
use Rattle.target_attributes.proofs.Laws.{unfit_lacks, fit_found}
use Rattle.new_slots.specs.Vacant.{marked, Lowest}
use Rattle.vacancies.proofs.Laws.{marked_free}
use Rattle.new_vertices.specs.Slots.{fit_results}
use Rattle.new_table.specs.Table.{new_table}
use Rattle.new_plan.proofs.Replies.{planned_refused, planned_done}
use Rattle.new_plan.proofs.Stages.{removable, unfit, full, prepared, new_table_of, cyclic, done}
use borrow.Author.Rules.{rules}
use Rattle.new_plan.proofs.plan.Goals as goal

pub all_fit-requires : goal.all_fit-requires
all_fit-requires c = record {
  table = graph_readable c.args.graph.now c.requires.cases.sound_graph;
  patterns = c.requires.cases.working.readable;
  evaluable = c.requires.cases.working.evaluable;
  image_size = c.requires.cases.size;
}

pub returns-in-Err : goal.returns-in-Err
unfolding fit_results
returns-in-Err c = planned_refused _ _ _ (refusal no_result) c.refuse.ensures
    (unfit c.args.graph.now c.args.rule.now c.args.images.now c.requires.cases
    (unfit_lacks _ _ c.all_fit.ensures c.in-Err.is))

pub find_free-free-requires : goal.find_free-free-requires
find_free-free-requires c = removable c.args.graph.now c.args.rule.now c.args.images.now c.requires.cases

pub slot_count-requires : goal.slot_count-requires
slot_count-requires c = omega (arith, (graph_readable c.args.graph.now c.requires.cases.sound_graph).whole.size)

pub returns-then-places-target_count : goal.returns-then-places-target_count
unfolding fit_results
returns-then-places-target_count c = let fit : is_given (fit_results c.args.graph.now c.args.rule.now c.args.images.now) ≡ true = fit_found _ _ c.all_fit.ensures c.in_default.is in
    let places : Lowest (free_slots (graph_of c.args.graph.now) (fixed_of c.args.rule.now) c.args.images.now) c.lowest_free-places.result.count
    c.lowest_free-places.result.slots = let slots = c.slot_count.ensures.0 ∙ sym (length-slots c.args.graph.now) in
    subst (λ (free : List ℕ). Lowest free c.lowest_free-places.result.count c.lowest_free-places.result.slots)
    (ap (marked c.find_free-free.result) slots
    ∙ marked_free (graph_of c.args.graph.now) (fixed_of c.args.rule.now) c.args.images.now c.find_free-free.result
    (rw (← length-slots c.args.graph.now) at c.find_free-free.ensures))
    c.lowest_free-places.ensures in
    planned_refused _ _ _ (refusal no_room) c.refuse-then-places-target_count.ensures
    (full c.args.graph.now c.args.rule.now c.args.images.now c.requires.cases fit
    c.lowest_free-places.result.count c.lowest_free-places.result.slots places
    (omega (arith, c.target_count.ensures.0, c.if-places-target_count.true)))

pub returns-then-has_cycle : goal.returns-then-has_cycle
unfolding fit_results
returns-then-has_cycle c = let fit : is_given (fit_results c.args.graph.now c.args.rule.now c.args.images.now) ≡ true = fit_found _ _ c.all_fit.ensures c.in_default.is in
    let places : Lowest (free_slots (graph_of c.args.graph.now) (fixed_of c.args.rule.now) c.args.images.now) c.lowest_free-places.result.count
    c.lowest_free-places.result.slots = let slots = c.slot_count.ensures.0 ∙ sym (length-slots c.args.graph.now) in
    subst (λ (free : List ℕ). Lowest free c.lowest_free-places.result.count c.lowest_free-places.result.slots)
    (ap (marked c.find_free-free.result) slots
    ∙ marked_free (graph_of c.args.graph.now) (fixed_of c.args.rule.now) c.args.images.now c.find_free-free.result
    (rw (← length-slots c.args.graph.now) at c.find_free-free.ensures))
    c.lowest_free-places.ensures in
    let enough : target_count c.args.rule.now ≤ c.lowest_free-places.result.count = omega (arith, c.target_count.ensures.0, c.if-places-target_count.false) in
    let table : Table (new_table c.args.graph.now c.args.rule.now c.args.images.now) = new_table_of c.args.graph.now c.args.rule.now c.args.images.now c.requires.cases
    fit c.lowest_free-places.result.count c.lowest_free-places.result.slots places enough in
    let judged : c.has_cycle.result ≡ has_cycle (new_table c.args.graph.now c.args.rule.now c.args.images.now) = c.has_cycle.ensures ∙ ap (λ block. has_cycle (graph_of block)) c.write_table.ensures ∙ block_cycle (new_table c.args.graph.now c.args.rule.now c.args.images.now) (holdable (new_table c.args.graph.now c.args.rule.now c.args.images.now) table) graph_version (λ i. 0) in
    planned_refused _ _ _ (refusal new_cycle) c.refuse-then-has_cycle.ensures
    (cyclic c.args.graph.now c.args.rule.now c.args.images.now c.requires.cases fit
    c.lowest_free-places.result.count c.lowest_free-places.result.slots places enough (sym judged ∙ c.if-has_cycle.true))

pub store_counts-requires : goal.store_counts-requires
unfolding fit_results
store_counts-requires c = let fit : is_given (fit_results c.args.graph.now c.args.rule.now c.args.images.now) ≡ true = fit_found _ _ c.all_fit.ensures c.in_default.is in
    let places : Lowest (free_slots (graph_of c.args.graph.now) (fixed_of c.args.rule.now) c.args.images.now) c.lowest_free-places.result.count
    c.lowest_free-places.result.slots = let slots = c.slot_count.ensures.0 ∙ sym (length-slots c.args.graph.now) in
    subst (λ (free : List ℕ). Lowest free c.lowest_free-places.result.count c.lowest_free-places.result.slots)
    (ap (marked c.find_free-free.result) slots
    ∙ marked_free (graph_of c.args.graph.now) (fixed_of c.args.rule.now) c.args.images.now c.find_free-free.result
    (rw (← length-slots c.args.graph.now) at c.find_free-free.ensures))
    c.lowest_free-places.ensures in
    let enough : target_count c.args.rule.now ≤ c.lowest_free-places.result.count = omega (arith, c.target_count.ensures.0, c.if-places-target_count.false) in
    let table : Table (new_table c.args.graph.now c.args.rule.now c.args.images.now) = new_table_of c.args.graph.now c.args.rule.now c.args.images.now c.requires.cases
    fit c.lowest_free-places.result.count c.lowest_free-places.result.slots places enough in
    subst CountableGraph (sym c.write_table.ensures) (made_countable graph_version (λ i. 0) (new_table c.args.graph.now c.args.rule.now c.args.images.now) table)

pub returns : goal.returns
unfolding fit_results
returns c = let fit : is_given (fit_results c.args.graph.now c.args.rule.now c.args.images.now) ≡ true = fit_found _ _ c.all_fit.ensures c.in_default.is in
    let places : Lowest (free_slots (graph_of c.args.graph.now) (fixed_of c.args.rule.now) c.args.images.now) c.lowest_free-places.result.count
    c.lowest_free-places.result.slots = let slots = c.slot_count.ensures.0 ∙ sym (length-slots c.args.graph.now) in
    subst (λ (free : List ℕ). Lowest free c.lowest_free-places.result.count c.lowest_free-places.result.slots)
    (ap (marked c.find_free-free.result) slots
    ∙ marked_free (graph_of c.args.graph.now) (fixed_of c.args.rule.now) c.args.images.now c.find_free-free.result
    (rw (← length-slots c.args.graph.now) at c.find_free-free.ensures))
    c.lowest_free-places.ensures in
    let enough : target_count c.args.rule.now ≤ c.lowest_free-places.result.count = omega (arith, c.target_count.ensures.0, c.if-places-target_count.false) in
    let table : Table (new_table c.args.graph.now c.args.rule.now c.args.images.now) = new_table_of c.args.graph.now c.args.rule.now c.args.images.now c.requires.cases
    fit c.lowest_free-places.result.count c.lowest_free-places.result.slots places enough in
    let judged : c.has_cycle.result ≡ has_cycle (new_table c.args.graph.now c.args.rule.now c.args.images.now) = c.has_cycle.ensures ∙ ap (λ block. has_cycle (graph_of block)) c.write_table.ensures ∙ block_cycle (new_table c.args.graph.now c.args.rule.now c.args.images.now) (holdable (new_table c.args.graph.now c.args.rule.now c.args.images.now) table) graph_version (λ i. 0) in
    planned_done _ (Ok 0) _ (new_table c.args.graph.now c.args.rule.now c.args.images.now) table refl
    (done c.args.graph.now c.args.rule.now c.args.images.now c.requires.cases fit
    c.lowest_free-places.result.count c.lowest_free-places.result.slots places enough (sym judged ∙ c.if-has_cycle.false))
    (c.store_counts.ensures ∙ ap recounted c.write_table.ensures ∙ made-recounted graph_version (λ i. 0) (new_table c.args.graph.now c.args.rule.now c.args.images.now) table)

pub lowest_free-places-requires-clause-n_le_slot_limit : goal.lowest_free-places-requires-clause-n_le_slot_limit
lowest_free-places-requires-clause-n_le_slot_limit c = omega (arith, c.slot_count.ensures.0, (graph_readable c.args.graph.now c.requires.cases.sound_graph).whole.slots)

pub write_table-requires-clause-prepared : goal.write_table-requires-clause-prepared
unfolding fit_results
write_table-requires-clause-prepared c = let fit : is_given (fit_results c.args.graph.now c.args.rule.now c.args.images.now) ≡ true = fit_found _ _ c.all_fit.ensures c.in_default.is in
    let places : Lowest (free_slots (graph_of c.args.graph.now) (fixed_of c.args.rule.now) c.args.images.now) c.lowest_free-places.result.count
    c.lowest_free-places.result.slots = let slots = c.slot_count.ensures.0 ∙ sym (length-slots c.args.graph.now) in
    subst (λ (free : List ℕ). Lowest free c.lowest_free-places.result.count c.lowest_free-places.result.slots)
    (ap (marked c.find_free-free.result) slots
    ∙ marked_free (graph_of c.args.graph.now) (fixed_of c.args.rule.now) c.args.images.now c.find_free-free.result
    (rw (← length-slots c.args.graph.now) at c.find_free-free.ensures))
    c.lowest_free-places.ensures in
    prepared c.args.graph.now c.args.rule.now c.args.images.now c.requires.cases fit c.lowest_free-places.result.count
    c.lowest_free-places.result.slots places

pub write_table-requires-clause-rule_nonzero : goal.write_table-requires-clause-rule_nonzero
unfolding fit_results
write_table-requires-clause-rule_nonzero c = let fit : is_given (fit_results c.args.graph.now c.args.rule.now c.args.images.now) ≡ true = fit_found _ _ c.all_fit.ensures c.in_default.is in
    let places : Lowest (free_slots (graph_of c.args.graph.now) (fixed_of c.args.rule.now) c.args.images.now) c.lowest_free-places.result.count
    c.lowest_free-places.result.slots = let slots = c.slot_count.ensures.0 ∙ sym (length-slots c.args.graph.now) in
    subst (λ (free : List ℕ). Lowest free c.lowest_free-places.result.count c.lowest_free-places.result.slots)
    (ap (marked c.find_free-free.result) slots
    ∙ marked_free (graph_of c.args.graph.now) (fixed_of c.args.rule.now) c.args.images.now c.find_free-free.result
    (rw (← length-slots c.args.graph.now) at c.find_free-free.ensures))
    c.lowest_free-places.ensures in
    (output-counts c.args.rule.now c.requires.cases.working).0

pub has_cycle-requires-clause-readable_graph : goal.has_cycle-requires-clause-readable_graph
unfolding fit_results
has_cycle-requires-clause-readable_graph c = let fit : is_given (fit_results c.args.graph.now c.args.rule.now c.args.images.now) ≡ true = fit_found _ _ c.all_fit.ensures c.in_default.is in
    let places : Lowest (free_slots (graph_of c.args.graph.now) (fixed_of c.args.rule.now) c.args.images.now) c.lowest_free-places.result.count
    c.lowest_free-places.result.slots = let slots = c.slot_count.ensures.0 ∙ sym (length-slots c.args.graph.now) in
    subst (λ (free : List ℕ). Lowest free c.lowest_free-places.result.count c.lowest_free-places.result.slots)
    (ap (marked c.find_free-free.result) slots
    ∙ marked_free (graph_of c.args.graph.now) (fixed_of c.args.rule.now) c.args.images.now c.find_free-free.result
    (rw (← length-slots c.args.graph.now) at c.find_free-free.ensures))
    c.lowest_free-places.ensures in
    let enough : target_count c.args.rule.now ≤ c.lowest_free-places.result.count = omega (arith, c.target_count.ensures.0, c.if-places-target_count.false) in
    let table : Table (new_table c.args.graph.now c.args.rule.now c.args.images.now) = new_table_of c.args.graph.now c.args.rule.now c.args.images.now c.requires.cases
    fit c.lowest_free-places.result.count c.lowest_free-places.result.slots places enough in
    let written = sym c.write_table.ensures in subst ReadableGraph written (block_readable (new_table c.args.graph.now c.args.rule.now c.args.images.now) (holdable (new_table c.args.graph.now c.args.rule.now c.args.images.now) table) graph_version (λ i. 0))

pub has_cycle-requires-clause-closed : goal.has_cycle-requires-clause-closed
unfolding fit_results
has_cycle-requires-clause-closed c = let fit : is_given (fit_results c.args.graph.now c.args.rule.now c.args.images.now) ≡ true = fit_found _ _ c.all_fit.ensures c.in_default.is in
    let places : Lowest (free_slots (graph_of c.args.graph.now) (fixed_of c.args.rule.now) c.args.images.now) c.lowest_free-places.result.count
    c.lowest_free-places.result.slots = let slots = c.slot_count.ensures.0 ∙ sym (length-slots c.args.graph.now) in
    subst (λ (free : List ℕ). Lowest free c.lowest_free-places.result.count c.lowest_free-places.result.slots)
    (ap (marked c.find_free-free.result) slots
    ∙ marked_free (graph_of c.args.graph.now) (fixed_of c.args.rule.now) c.args.images.now c.find_free-free.result
    (rw (← length-slots c.args.graph.now) at c.find_free-free.ensures))
    c.lowest_free-places.ensures in
    let enough : target_count c.args.rule.now ≤ c.lowest_free-places.result.count = omega (arith, c.target_count.ensures.0, c.if-places-target_count.false) in
    let table : Table (new_table c.args.graph.now c.args.rule.now c.args.images.now) = new_table_of c.args.graph.now c.args.rule.now c.args.images.now c.requires.cases
    fit c.lowest_free-places.result.count c.lowest_free-places.result.slots places enough in
    let written = sym c.write_table.ensures in subst Closed written (block_closed (new_table c.args.graph.now c.args.rule.now c.args.images.now) table graph_version (λ i. 0))
