-- Each of the first places says whether its slot is Empty.
use mathlib.Core.Path.{◌≡◌, sym, ◌∙◌}
use mathlib.Core.Bool.{Bool, not, not-not}
use Prim.Native.Nat.{ℕ}
use native.Mathlib.Omega.{arith}
use borrow.Author.Rules.{rules}
use borrow.Author.Tests.{tests}
use lib.Dec.{eqb}
use Rattle.definitions.specs.Lists.{tabulate}
use Rattle.definitions.specs.Graph.{slot_count, Graph, graph_of, slot_of, is_vertex}
use Rattle.laws.proofs.Lists.{length-tabulate, get_or_tabulate}
use Rattle.vacancies.proofs.Steps.{marks_of}
use Rattle.vacancies.proofs.mark_empty.Goals as goal

empty_kind : (g : Graph) (k : ℕ) → eqb (slot_of g k).kind 0 ≡ not (is_vertex g k)
unfolding is_vertex
empty_kind g k = sym (not-not (eqb (slot_of g k).kind 0))

pub returns : goal.returns
returns c =
    let g = graph_of c.args.graph.now in
    let n = slot_count c.args.graph.now in
    let empty : ℕ → Bool = λ k. not (is_vertex g k) in
    rw (c.padded.ensures (tabulate n empty) (length-tabulate n empty ∙ sym c.slot_count-slots.ensures.0)
    (λ i l x p.
    let said : x ≡ eqb (slot_of g i).kind 0 = search (rules, tests) in
    said ∙ empty_kind g i ∙ sym (get_or_tabulate n empty i _ (omega (arith, c.slot_count-slots.ensures.0))))) (marks_of empty n c.requires.slots)
