use mathlib.Core.Path.{sym, ◌∙◌}
use Rattle.std.proofs.Common.{rules}
use borrow.Author.Tests.{tests}
use Rattle.laws.proofs.Searches.{first_of_range}
use Rattle.definitions.specs.Graph.{slot_count, graph_of, inputs_of}
use Rattle.definitions.specs.Paths.{on_cycle}
use Rattle.graph_cycles.proofs.Laws.{by_slots, lowest_free}
use Rattle.graph_cycles.proofs.lowest_on_cycle.Goals as goal

pub returns-then-has_cycle : goal.returns-then-has_cycle
returns-then-has_cycle c =
    let block = c.args.graph.now in
    c.unwrap_or.ensures ∙ first_of_range (on_cycle (inputs_of (graph_of block)) (slot_count block)) c.slot_count-slots.ensures.0 _ _ _ c.find.ensures.ran (λ x b q k. search (rules, tests))
    ∙ sym (by_slots block)

pub returns-else-has_cycle : goal.returns-else-has_cycle
returns-else-has_cycle c = c.slot_count-slots.ensures.0
    ∙ lowest_free c.args.graph.now c.requires.closed (sym c.has_cycle.ensures ∙ c.if-has_cycle.false)
