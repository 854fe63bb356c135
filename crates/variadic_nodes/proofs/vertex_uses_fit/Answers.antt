use mathlib.Core.Path.{◌≡◌, refl, sym, ◌∙◌}
use mathlib.Core.Bool.{Bool, true, false, not}
use Rattle.std.proofs.Common.{rules, ◌+◌}
use borrow.Author.Tests.{tests}
use Rattle.definitions.specs.Fields.{byte_at}
use Rattle.definitions.specs.Rule.{vertex_at}
use Rattle.definitions.specs.VariadicBlock.{variadic_use_fits, bad_variadic_use}
use Rattle.laws.proofs.Searches.{all_of_range}
use Rattle.variadic_nodes.proofs.vertex_uses_fit.Goals as goal

not_twice : (b : Bool) → not (not b) ≡ b
not_twice true = refl
not_twice false = refl

pub returns : goal.returns
unfolding bad_variadic_use
returns c =
    all_of_range (λ i. variadic_use_fits c.args.rule.now c.args.v (byte_at c.args.rule.now (vertex_at c.args.v + 10 + i))) c.byte_at-count.ensures.0 _ _ _ c.all.ensures.ran (λ x b q k. search (rules, tests))
    ∙ sym (not_twice _)
