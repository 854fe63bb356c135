-- A refusal for header, records or names is the reply. Where there is none a cycle is looked for.
use mathlib.Core.Path.{◌≡◌, sym, ap, ◌∙◌}
use native.Mathlib.Omega.{arith}
use Rattle.definitions.specs.Reply.{graph_has_cycle, done, refused_at}
use Rattle.definitions.specs.Graph.{name_faults}
use Rattle.laws.proofs.Reply.{passed_on, done_plain, judged_valueless}
use Rattle.graph_check.specs.Stages.{early_reply, Passed}
use Rattle.graph_check.proofs.Laws.{passed, early_refused, refused_cycle, sound, passed_readable, passed_closed}
use Rattle.graph_check.proofs.judge.Goals as goal

pub returns-in_err-check_names : goal.returns-in_err-check_names
returns-in_err-check_names c = let a = c.args in
    passed_on c.from_residual.ensures.1 ∙ sym (early_refused a.version a.graph.now (sym c.in_err-check_names.ensures))

pub slot_count-slots-requires : goal.slot_count-slots-requires
slot_count-slots-requires c = let early : early_reply c.args.version c.args.graph.now ≡ done = done_plain (judged_valueless (name_faults c.args.version c.args.graph.now)) (sym c.in_ok-check_names.ensures) in
    let known : Passed c.args.version c.args.graph.now = passed c.args.version c.args.graph.now early in
    omega (arith, (passed_readable c.args.version c.args.graph.now known).whole.size)

pub returns-then-cyclic-slots : goal.returns-then-cyclic-slots
returns-then-cyclic-slots c = let early : early_reply c.args.version c.args.graph.now ≡ done = done_plain (judged_valueless (name_faults c.args.version c.args.graph.now)) (sym c.in_ok-check_names.ensures) in
    c.refuse_at.ensures ∙ ap (refused_at graph_has_cycle) c.lowest_on_cycle-cyclic.ensures
    ∙ refused_cycle c.args.version c.args.graph.now (sym early) (omega (arith, c.if-cyclic-slots.true, c.lowest_on_cycle-cyclic.ensures, c.slot_count-slots.ensures.0))

pub returns : goal.returns
returns c = let early : early_reply c.args.version c.args.graph.now ≡ done = done_plain (judged_valueless (name_faults c.args.version c.args.graph.now)) (sym c.in_ok-check_names.ensures) in
    sound c.args.version c.args.graph.now (sym early) (omega (arith, c.if-cyclic-slots.false, c.lowest_on_cycle-cyclic.ensures, c.slot_count-slots.ensures.0))

pub lowest_on_cycle-cyclic-requires-clause-readable_graph : goal.lowest_on_cycle-cyclic-requires-clause-readable_graph
lowest_on_cycle-cyclic-requires-clause-readable_graph c = let early : early_reply c.args.version c.args.graph.now ≡ done = done_plain (judged_valueless (name_faults c.args.version c.args.graph.now)) (sym c.in_ok-check_names.ensures) in
    let known : Passed c.args.version c.args.graph.now = passed c.args.version c.args.graph.now early in
    passed_readable c.args.version c.args.graph.now known

pub lowest_on_cycle-cyclic-requires-clause-closed : goal.lowest_on_cycle-cyclic-requires-clause-closed
lowest_on_cycle-cyclic-requires-clause-closed c = let early : early_reply c.args.version c.args.graph.now ≡ done = done_plain (judged_valueless (name_faults c.args.version c.args.graph.now)) (sym c.in_ok-check_names.ensures) in
    let known : Passed c.args.version c.args.graph.now = passed c.args.version c.args.graph.now early in
    passed_closed c.args.version c.args.graph.now known
