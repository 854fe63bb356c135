use mathlib.Core.Path.{◌∙◌}
use Rattle.std.proofs.Common.{rules, ◌+◌}
use borrow.Author.Tests.{tests}
use Rattle.definitions.specs.Fields.{byte_at}
use Rattle.definitions.specs.Rule.{vertex_at}
use Rattle.laws.proofs.Searches.{any_of_range}
use Rattle.laws.proofs.TableTests.{any_tabulated}
use Rattle.variadic_templates.specs.Templates.{places_of, place_marked, names_template}
use Rattle.variadic_templates.proofs.names_template.Goals as goal

pub returns : goal.returns
unfolding names_template places_of
returns c =
    let block = c.args.rule.now in
    let v = c.args.v in
    any_of_range (λ i. place_marked block v (byte_at block (vertex_at v + 4 + i))) c.byte_at-count.ensures.0 _ _ _ c.any.ensures.ran (λ x b q k. search (rules, tests))
    ∙ any_tabulated (place_marked block v) (byte_at block (vertex_at v + 2)) (λ i. byte_at block (vertex_at v + 4 + i))
