-- Each way to return is one law of `Walks`.
use native.Mathlib.Omega.{arith}
use borrow.Author.Rules.{rules}
use Rattle.variadic_order.proofs.Walks.{visit_again, visit_full, visit-added, names-done, names_skipped, names_over, names_passed, names_visited}
use Rattle.variadic_order.proofs.+visit_visit_names.Goals as goal

-- ---- visit

pub visit-returns-then-numbers-c-ne0-clause-visits : goal.visit-returns-then-numbers-c-ne0-clause-visits
visit-returns-then-numbers-c-ne0-clause-visits t c =
    visit_again c.args.rule.now c.args.side.first c.args.side.base c.args.side.tuple c.args.n c.args.c
    c.requires.side_copy.below c.requires.visited (λ e. omega arith)

pub visit-returns-in_err-after-clause-visits : goal.visit-returns-in_err-after-clause-visits
visit-returns-in_err-after-clause-visits t c =
    rw c.from_residual.ensures
    (visit_full c.args.rule.now c.args.side.first c.args.side.base c.args.side.tuple c.args.n c.args.c
    c.requires.side_copy.below c.requires.visited (omega arith) c.in_err-after.ensures.visits (omega arith))

pub visit-returns-then-after-ge-EXPANDED_LIMIT-clause-visits : goal.visit-returns-then-after-ge-EXPANDED_LIMIT-clause-visits
visit-returns-then-after-ge-EXPANDED_LIMIT-clause-visits t c =
    visit_full c.args.rule.now c.args.side.first c.args.side.base c.args.side.tuple c.args.n c.args.c
    c.requires.side_copy.below c.requires.visited (omega arith) c.in_ok-after.ensures.visits (omega arith)

pub visit-returns-clause-visits : goal.visit-returns-clause-visits
visit-returns-clause-visits t c =
    visit-added c.args.rule.now c.args.side.first c.args.side.base c.args.side.tuple c.args.n c.args.c
    c.requires.side_copy.below c.requires.visited (omega arith) c.in_ok-after.ensures.visits (omega arith)

-- ---- visit_names

pub visit_names-returns-then-i-field_count-clause-visits : goal.visit_names-returns-then-i-field_count-clause-visits
visit_names-returns-then-i-field_count-clause-visits t c =
    names-done c.args.rule.now c.args.side.first c.args.side.base c.args.side.tuple c.args.n c.args.c c.args.i
    (omega arith) c.requires.visited

pub visit_names-returns-in-None-clause-visits : goal.visit_names-returns-in-None-clause-visits
visit_names-returns-in-None-clause-visits t c =
    names_skipped c.args.rule.now c.args.side.first c.args.side.base c.args.side.tuple c.args.n c.args.c c.args.i
    (omega arith) c.in-None.ensures c.visit_names.ensures.visits

pub visit_names-returns-in_err-after-in-Some-clause-visits : goal.visit_names-returns-in_err-after-in-Some-clause-visits
visit_names-returns-in_err-after-in-Some-clause-visits t c =
    rw c.from_residual.ensures
    (names_over c.args.rule.now c.args.side.first c.args.side.base c.args.side.tuple c.args.n c.args.c c.args.i
    (omega arith) c.in-Some.named c.in-Some.ensures c.in_err-after-in-Some.ensures.visits (omega arith))

pub visit_names-visit_names-requires-in-Some : goal.visit_names-visit_names-requires-in-Some
visit_names-visit_names-requires-in-Some t c =
    let visited = names_visited c.args.rule.now c.args.side.first c.args.side.base c.args.side.tuple c.args.n
    c.in_ok-after-in-Some.ensures.visits c.in_ok-after-in-Some.ensures.few in
    search (rules, visited)

pub visit_names-returns-in_ok-after-in-Some-clause-visits : goal.visit_names-returns-in_ok-after-in-Some-clause-visits
visit_names-returns-in_ok-after-in-Some-clause-visits t c =
    names_passed c.args.rule.now c.args.side.first c.args.side.base c.args.side.tuple c.args.n c.args.c c.args.i
    (omega arith) c.in-Some.named c.in-Some.ensures c.in_ok-after-in-Some.ensures.visits c.in_ok-after-in-Some.ensures.few
    c.visit_names-in-Some.ensures.visits
