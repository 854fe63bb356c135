use mathlib.Core.Path.{◌∙◌, sym, ap}
use mathlib.Core.Bool.{not}
use Rattle.std.proofs.Common.{rules, ◌+◌}
use borrow.Author.Tests.{tests}
use Rattle.definitions.specs.Fields.{byte_at}
use Rattle.definitions.specs.Rule.{origin_of}
use Rattle.definitions.specs.VariadicBlock.{marked, variadic_of, origin_template, shared_outputs}
use Rattle.laws.proofs.Searches.{any_of_range}
use Rattle.variadic_templates.proofs.Laws.{sources_read, targets_read}
use Rattle.variadic_templates.proofs.shared_outputs.Goals as goal

pub returns-then-not-any : goal.returns-then-not-any
unfolding shared_outputs
returns-then-not-any c =
    let block = c.args.rule.now in
    let sources = sym c.if-not-any.true ∙ any_of_range (λ i. marked block (byte_at block (10 + i))) c.output_count-outputs.ensures.0 _ _ _ c.any.ensures.ran (λ x b q k. search (rules, tests)) ∙ sources_read block in
    rw (← sources) (ap not (any_of_range (λ i. origin_template (variadic_of block) (origin_of (byte_at block (12 + i)))) c.output_count-outputs.ensures.0 _ _ _ c.any-then-not-any.ensures.ran (λ x b q k. search (rules, tests)) ∙ targets_read block))

pub returns-else-not-any : goal.returns-else-not-any
unfolding shared_outputs
returns-else-not-any c =
    let block = c.args.rule.now in
    let sources = sym c.if-not-any.false ∙ any_of_range (λ i. marked block (byte_at block (10 + i))) c.output_count-outputs.ensures.0 _ _ _ c.any.ensures.ran (λ x b q k. search (rules, tests)) ∙ sources_read block in
    rw (← sources) (ap not c.if-not-any.false)
