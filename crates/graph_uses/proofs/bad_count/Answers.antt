use mathlib.Core.Path.{◌≡◌, sym, ap, ◌∙◌}
use mathlib.Core.Bool.{Bool, not}
use Prim.Native.Nat.{ℕ, ◌<◌}
use Rattle.std.proofs.Common.{rules}
use borrow.Author.Tests.{tests}
use lib.Dec.{eqb}
use lib.ListN.{get_or}
use Rattle.definitions.specs.Graph.{slot_count, stored_count, bad_count}
use Rattle.laws.proofs.Agreeing.{lowest_same}
use Rattle.laws.proofs.Searches.{first_of_range}
use Rattle.graph_uses.proofs.bad_count.Goals as goal

pub returns : goal.returns
unfolding bad_count
returns c =
    let block = c.args.graph.now in
    let differs : ℕ → Bool = λ k. not (eqb (stored_count block k) (get_or c.count_uses-uses.result k 0)) in
    c.unwrap_or.ensures ∙ first_of_range differs c.slot_count-slots.ensures.0 _ _ _ c.find.ensures.ran (λ x b q k. search (rules, tests))
    ∙ lowest_same differs (bad_count block) (slot_count block) (λ k l. ap (λ n. not (eqb (stored_count block k) n)) (c.count_uses-uses.ensures.1 k l))
