-- The rule inputs first, then the target vertices. Target vertex t has the place number split_in rule + t.
use Rattle.std.proofs.Common.{◌≡◌, ◌∙◌, ◌+◌, sym, rules}
use borrow.Author.Tests.{tests}
use lib.ListN.{length}
use Rattle.definitions.specs.Lists.{all_below}
use Rattle.definitions.specs.Rule.{named, made, all_named}
use Rattle.laws.proofs.Searches.{all_of_range}
use Rattle.rule_fields.specs.Fixed.{split_in, origin_in, fixed_of}
use Rattle.rule_fields.proofs.Fixed.{length-source, length-target}
use Rattle.rule_names.specs.Marks.{input_named}
use Rattle.rule_names.proofs.Laws.{made-place}
use Rattle.rule_names.proofs.all_named.Goals as goal

pub returns-then-all : goal.returns-then-all
unfolding all_named
returns-then-all c = let block = c.args.rule.now in
    let r = fixed_of block in
    let inputs : c.all.result ≡ all_below (input_named r) (length r.source) =
    all_of_range (input_named r) (c.source_count.ensures.0 ∙ sym (length-source block)) _ _ _ c.all.ensures.ran (λ x b q k. search (rules, tests)) in
    let vertices : c.all-then-all.result ≡ all_below (λ t. named r (made t)) (length r.target) =
    all_of_range (λ t. named r (origin_in block (split_in block + t))) (c.target_count-count.ensures.0 ∙ sym (length-target block)) _ _ _ c.all-then-all.ensures.ran
    (λ x b q k. search (rules, tests, c.marked-used.ensures))
    ∙ (λ i. all_below (λ t. named r (made-place (split_in block) t i)) (length r.target)) in
    simp (sym inputs ∙ c.if-all.true) vertices

pub returns-else-all : goal.returns-else-all
unfolding all_named
returns-else-all c = let block = c.args.rule.now in
    let r = fixed_of block in
    let inputs : c.all.result ≡ all_below (input_named r) (length r.source) =
    all_of_range (input_named r) (c.source_count.ensures.0 ∙ sym (length-source block)) _ _ _ c.all.ensures.ran (λ x b q k. search (rules, tests)) in
    c.if-all.false ∙ simp (sym inputs ∙ c.if-all.false)
