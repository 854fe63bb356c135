-- Each test is one part of the definition's.
use mathlib.Core.Path.{sym, ◌∙◌}
use mathlib.Core.Bool.{not, and-true, and-false}
use borrow.Author.Tests.{eq-eqb, ne_eqb}
use Rattle.definitions.specs.Graph.{graph_of, slot_of, is_vertex, is_variable}
use Rattle.definitions.specs.Sweep.{is_unneeded}
use Rattle.graph_sweep.proofs.goes.Goals as goal

pub returns-then-needed-v : goal.returns-then-needed-v
unfolding is_unneeded
returns-then-needed-v c = simp (c.if-needed-v.true, and-false)

pub returns-then-kind-eq-KIND_EMPTY : goal.returns-then-kind-eq-KIND_EMPTY
unfolding is_unneeded is_vertex
returns-then-kind-eq-KIND_EMPTY c = let kind = (slot_of (graph_of c.args.graph.now) c.args.v).kind in
    simp (eq-eqb kind 0 (sym c.kind_of-kind.ensures.0 ∙ c.if-kind-eq-KIND_EMPTY.true))

pub returns : goal.returns
unfolding is_unneeded is_vertex is_variable
returns c = let kind = (slot_of (graph_of c.args.graph.now) c.args.v).kind in
    simp (ne_eqb kind 0 (λ e. c.if-kind-eq-KIND_EMPTY.false (c.kind_of-kind.ensures.0 ∙ e)), c.if-needed-v.false, c.kind_of-kind.ensures.0)
    (sym (and-true (not (is_variable (graph_of c.args.graph.now) c.args.v))))
