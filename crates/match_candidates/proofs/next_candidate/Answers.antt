-- The search over the range, and a number past the last slot where it finds none.
use mathlib.Core.Path.{◌≡◌}
use mathlib.Core.Bool.{Bool, true, false}
use Prim.Native.Nat.{ℕ}
use Rattle.std.proofs.Common.{rules}
use borrow.Author.Tests.{tests}
use Rattle.std.proofs.lemmas.Iterator.{first_from_Range}
use Rattle.definitions.specs.Graph.{graph_of}
use Rattle.match_look.specs.Head.{head_in}
use Rattle.match_look.specs.Candidate.{passes_look}
use Rattle.match_candidates.proofs.Steps.{next_from}
use Rattle.match_candidates.proofs.next_candidate.Goals as goal

pub returns : goal.returns
returns c =
    let looks : ℕ → Bool = passes_look (head_in c.args.head) (graph_of c.args.graph.now) in
    rw (c.unwrap_or.ensures, c.max.ensures, ← c.slot_count-slots.ensures.0)
    (next_from looks c.args.from c.slot_count-slots.result c.find.result
    (first_from_Range (record { start = c.args.from; end = c.slot_count-slots.result }) _ _ c.find.result
    (λ x. looks x ≡ true) (λ x. looks x ≡ false) c.find.ensures.ran (λ x q k. search (rules, tests)) (λ x q k. search (rules, tests))))
