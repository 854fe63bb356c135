-- A refusal for header, records or names is the reply. Where there is none a cycle is told, and where there is no cycle a wrong count.
use mathlib.Core.Path.{◌≡◌, sym, ap, ◌∙◌}
use native.Mathlib.Omega.{arith}
use Rattle.definitions.specs.Reply.{graph_has_cycle, bad_graph_count, done, refused_at}
use Rattle.definitions.specs.Graph.{graph_version, name_faults, reply_as}
use Rattle.laws.proofs.Reply.{passed_on, done_plain, judged_valueless}
use Rattle.graph_check.specs.Stages.{early_reply, Passed}
use Rattle.graph_check.proofs.Laws.{passed, early_refused, refused_cycle, sound, passed_readable, passed_closed, passed_countable, refused-form, refused-count, counted}
use Rattle.graph_check.proofs.check.Goals as goal

pub returns-in_err-check_names : goal.returns-in_err-check_names
returns-in_err-check_names c = let graph = c.args.graph.now in
    passed_on c.from_residual.ensures.1 ∙ sym (refused-form graph (early_refused graph_version graph (sym c.in_err-check_names.ensures)))

pub slot_count-slots-requires : goal.slot_count-slots-requires
slot_count-slots-requires c = let early : early_reply graph_version c.args.graph.now ≡ done = done_plain (judged_valueless (name_faults graph_version c.args.graph.now)) (sym c.in_ok-check_names.ensures) in
    let known : Passed graph_version c.args.graph.now = passed graph_version c.args.graph.now early in
    omega (arith, (passed_readable graph_version c.args.graph.now known).whole.size)

pub bad_count-wrong-requires : goal.bad_count-wrong-requires
bad_count-wrong-requires c = let early : early_reply graph_version c.args.graph.now ≡ done = done_plain (judged_valueless (name_faults graph_version c.args.graph.now)) (sym c.in_ok-check_names.ensures) in
    let known : Passed graph_version c.args.graph.now = passed graph_version c.args.graph.now early in
    passed_countable graph_version c.args.graph.now known

pub returns-then-looped-slots : goal.returns-then-looped-slots
returns-then-looped-slots c = let early : early_reply graph_version c.args.graph.now ≡ done = done_plain (judged_valueless (name_faults graph_version c.args.graph.now)) (sym c.in_ok-check_names.ensures) in
    let cyclic = refused_cycle graph_version c.args.graph.now (sym early)
    (omega (arith, c.if-looped-slots.true, c.lowest_on_cycle-looped.ensures, c.slot_count-slots.ensures.0)) in
    c.refuse_at.ensures ∙ ap (refused_at graph_has_cycle) c.lowest_on_cycle-looped.ensures ∙ sym (refused-form c.args.graph.now (sym cyclic))

pub returns-then-wrong-slots : goal.returns-then-wrong-slots
returns-then-wrong-slots c = let early : early_reply graph_version c.args.graph.now ≡ done = done_plain (judged_valueless (name_faults graph_version c.args.graph.now)) (sym c.in_ok-check_names.ensures) in
    let formed : reply_as graph_version c.args.graph.now ≡ done = sym (sound graph_version c.args.graph.now (sym early)
    (omega (arith, c.if-looped-slots.false, c.lowest_on_cycle-looped.ensures, c.slot_count-slots.ensures.0))) in
    c.refuse_at-then-wrong-slots.ensures ∙ ap (refused_at bad_graph_count) c.bad_count-wrong.ensures
    ∙ refused-count c.args.graph.now formed (omega (arith, c.if-wrong-slots.true, c.bad_count-wrong.ensures, c.slot_count-slots.ensures.0))

pub returns : goal.returns
returns c = let early : early_reply graph_version c.args.graph.now ≡ done = done_plain (judged_valueless (name_faults graph_version c.args.graph.now)) (sym c.in_ok-check_names.ensures) in
    let formed : reply_as graph_version c.args.graph.now ≡ done = sym (sound graph_version c.args.graph.now (sym early)
    (omega (arith, c.if-looped-slots.false, c.lowest_on_cycle-looped.ensures, c.slot_count-slots.ensures.0))) in
    counted c.args.graph.now formed (omega (arith, c.if-wrong-slots.false, c.bad_count-wrong.ensures, c.slot_count-slots.ensures.0))

pub lowest_on_cycle-looped-requires-clause-readable_graph : goal.lowest_on_cycle-looped-requires-clause-readable_graph
lowest_on_cycle-looped-requires-clause-readable_graph c = let early : early_reply graph_version c.args.graph.now ≡ done = done_plain (judged_valueless (name_faults graph_version c.args.graph.now)) (sym c.in_ok-check_names.ensures) in
    let known : Passed graph_version c.args.graph.now = passed graph_version c.args.graph.now early in
    passed_readable graph_version c.args.graph.now known

pub lowest_on_cycle-looped-requires-clause-closed : goal.lowest_on_cycle-looped-requires-clause-closed
lowest_on_cycle-looped-requires-clause-closed c = let early : early_reply graph_version c.args.graph.now ≡ done = done_plain (judged_valueless (name_faults graph_version c.args.graph.now)) (sym c.in_ok-check_names.ensures) in
    let known : Passed graph_version c.args.graph.now = passed graph_version c.args.graph.now early in
    passed_closed graph_version c.args.graph.now known
