-- The kind decides, then each input place.
use Rattle.std.proofs.Common.{◌≡◌, ◌∙◌, ℕ, ◌+◌, sym, ap, arith, rules}
use Rattle.std.proofs.lemmas.Grind.{common_steps}
use borrow.Author.Tests.{tests}
use Rattle.definitions.specs.Fields.{byte_at}
use Rattle.definitions.specs.Lists.{all}
use Rattle.definitions.specs.Rule.{vertex_at, made, target_of, input_kind, origin_fits, target_inputs_fit}
use Rattle.laws.proofs.Searches.{all_of_range}
use Rattle.rule_fields.specs.Fixed.{origin_in, fixed_of}
use Rattle.rule_fields.proofs.Fixed.{target_kind_at, target-count-at, target_input_at}
use Rattle.rule_records.proofs.Laws.{all_of_bytes}
use Rattle.rule_records.proofs.target_inputs_fit.Goals as goal

pub returns-then-not-matches : goal.returns-then-not-matches
unfolding target_inputs_fit input_kind
returns-then-not-matches c = let block = c.args.rule.now in
    let t = c.args.t in
    let r = fixed_of block in
    let kind = (rw c.source_count.ensures.0 at c.byte_at-kind.ensures.0) ∙ sym (target_kind_at block t c.requires.t_bound) in
    let count = (rw c.source_count.ensures.0 at c.byte_at-inputs.ensures.0) ∙ sym (target-count-at block t c.requires.t_bound) in
    let fit : c.all.result ≡ all (origin_fits r t) (target_of r t).inputs =
    all_of_range (λ i. origin_fits r t (origin_in block (byte_at block (vertex_at (c.source_count.result + t) + 4 + i)))) count _ _ _ c.all.ensures.ran (λ x b q k. search (rules, tests))
    ∙ all_of_bytes (λ i. origin_fits r t (origin_in block (byte_at block (vertex_at (c.source_count.result + t) + 4 + i)))) (origin_fits r t) (made 255) (target_of r t).inputs
    (λ i l. ap (λ (s : ℕ). origin_fits r t (origin_in block (byte_at block (vertex_at (s + t) + 4 + i)))) c.source_count.ensures.0
    ∙ ap (origin_fits r t) (sym (target_input_at block t i (made 255) c.requires.t_bound l))) in
    grind (arith, common_steps)

pub returns-else-not-matches : goal.returns-else-not-matches
unfolding target_inputs_fit input_kind
returns-else-not-matches c = let block = c.args.rule.now in
    let kind = (rw c.source_count.ensures.0 at c.byte_at-kind.ensures.0) ∙ sym (target_kind_at block c.args.t c.requires.t_bound) in
    grind (arith, common_steps)
