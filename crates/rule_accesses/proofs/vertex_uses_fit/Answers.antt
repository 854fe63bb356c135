use Rattle.std.proofs.Common.{◌∙◌, ◌+◌, sym, rules}
use mathlib.Core.Bool.{not-not}
use borrow.Author.Tests.{tests}
use Rattle.laws.proofs.Searches.{all_of_range}
use Rattle.definitions.specs.Fields.{byte_at}
use Rattle.definitions.specs.Rule.{vertex_at, use_fits, bad_use}
use Rattle.rule_accesses.proofs.vertex_uses_fit.Goals as goal

pub returns : goal.returns
unfolding bad_use
returns c = let block = c.args.rule.now in
    let v = c.args.v in
    all_of_range (λ i. use_fits block v (byte_at block (vertex_at v + 10 + i))) c.byte_at-count.ensures.0 _ _ _ c.all.ensures.ran (λ x b q k. search (rules, tests)) ∙ sym (not-not _)
