use Rattle.std.proofs.Common.{◌∙◌, ℕ, ◌+◌, sym, ap, rules}
use borrow.Author.Tests.{tests}
use lib.Dec.{ltb}
use Rattle.definitions.specs.Fields.{byte_at}
use Rattle.definitions.specs.Rule.{vertex_at, source_inputs, source_inputs_fit}
use Rattle.laws.proofs.Searches.{all_of_range}
use Rattle.rule_fields.specs.Fixed.{fixed_of}
use Rattle.rule_fields.proofs.Fixed.{source-count-at, source_input_at}
use Rattle.rule_records.proofs.Laws.{all_of_bytes}
use Rattle.rule_records.proofs.source_inputs_fit.Goals as goal

pub returns : goal.returns
unfolding source_inputs_fit
returns c = let block = c.args.rule.now in
    let j = c.args.j in
    let count = c.byte_at-inputs.ensures.0 ∙ sym (source-count-at block j c.requires.j_bound) in
    all_of_range (λ i. ltb (byte_at block (vertex_at j + 4 + i)) j) count _ _ _ c.all.ensures.ran (λ x b q k. search (rules, tests))
    ∙ all_of_bytes (λ i. ltb (byte_at block (vertex_at j + 4 + i)) j) (λ u. ltb u j) 255 (source_inputs (fixed_of block) j) (λ i l. ap (λ (u : ℕ). ltb u j) (sym (source_input_at block j i 255 c.requires.j_bound l)))
