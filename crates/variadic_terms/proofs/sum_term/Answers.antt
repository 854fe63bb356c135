-- The cases are the definition's. A sum's operand is an earlier node, and there are at most 448 nodes.
use mathlib.Core.Path.{refl, sym, ap, ◌∙◌}
use Prim.Native.Nat.{ℕ, ◌<◌}
use native.Mathlib.Omega.{arith}
use Rattle.definitions.specs.Rule.{node_count, node_left}
use Rattle.variadic_terms.specs.Terms.{term_of, plain_term, number_in}
use Rattle.variadic_terms.proofs.Fits.{node_whole, sum_earlier}
use Rattle.variadic_terms.proofs.Cases.{same_operation, sum_none, sum_one, sum_unused, sum_first, sum_next}
use Rattle.variadic_terms.proofs.sum_term.Goals as goal

pub returns-then-i-eq0 : goal.returns-then-i-eq0
returns-then-i-eq0 c = c.any_term.ensures ∙ sym (sum_none c.args.rule.now (number_in c.args.numbers.now c.args.count) c.args.n c.args.k c.args.i c.if-i-eq0.true)

pub returns-then-n-eq1 : goal.returns-then-n-eq1
returns-then-n-eq1 c = let number = number_in c.args.numbers.now c.args.count in
    let above : 0 < c.args.i = omega (arith, c.if-i-eq0.false) in
    c.plain_term.ensures ∙ ap (λ (x : ℕ). plain_term c.args.rule.now number c.args.n x c.args.i) c.below_sums.ensures.0
    ∙ sym (sum_one c.args.rule.now number c.args.n c.args.k c.args.i above c.if-n-eq1.true)

pub returns-then-i-eq1 : goal.returns-then-i-eq1
returns-then-i-eq1 c = c.any_term-then-i-eq1.ensures ∙ sym (sum_unused c.args.rule.now (number_in c.args.numbers.now c.args.count) c.args.n c.args.k c.args.i c.if-i-eq1.true c.if-n-eq1.false)

pub returns-then-i-eq2 : goal.returns-then-i-eq2
returns-then-i-eq2 c = c.operation_term.ensures
    ∙ same_operation refl (c.term_of.ensures.0 ∙ ap (λ (x : ℕ). term_of c.args.rule.now c.args.n x 1) c.node_byte-x.ensures.0)
    (c.term_of-term.ensures.0 ∙ ap (λ (x : ℕ). term_of c.args.rule.now c.args.n x c.args.i) c.node_byte-x.ensures.0)
    ∙ sym (sum_first c.args.rule.now (number_in c.args.numbers.now c.args.count) c.args.n c.args.k c.args.i c.if-i-eq2.true c.if-n-eq1.false)

pub returns : goal.returns
returns c = let above : 2 < c.args.i = omega (arith, c.if-i-eq0.false, c.if-i-eq1.false, c.if-i-eq2.false) in
    c.operation_term-2.ensures
    ∙ same_operation refl refl (c.term_of-term.ensures.0 ∙ ap (λ (x : ℕ). term_of c.args.rule.now c.args.n x c.args.i) c.node_byte-x.ensures.0)
    ∙ sym (sum_next c.args.rule.now (number_in c.args.numbers.now c.args.count) c.args.n c.args.k c.args.i above c.if-n-eq1.false)

pub term_of-term-requires : goal.term_of-term-requires
term_of-term-requires c = let lower : node_left c.args.rule.now c.args.k < c.args.k = sum_earlier c.args.rule.now c.args.k (c.requires.expandable.nodes c.args.k c.requires.k_bound) c.requires.k_value in
    let inside : c.node_byte-x.result < node_count c.args.rule.now = omega (arith, lower, c.node_byte-x.ensures.0, c.requires.k_bound) in record {
      k_in_bounds = node_whole c.args.rule.now c.requires.expandable c.node_byte-x.result inside;
      k_lt_node_limit = omega (arith, inside, c.requires.expandable.layout.few_nodes);
      n_le_field_limit = c.requires.n_le_field_limit;
      index_le_field_limit = omega arith;
    }

pub term_of-requires : goal.term_of-requires
term_of-requires c = let lower : node_left c.args.rule.now c.args.k < c.args.k = sum_earlier c.args.rule.now c.args.k (c.requires.expandable.nodes c.args.k c.requires.k_bound) c.requires.k_value in
    let inside : c.node_byte-x.result < node_count c.args.rule.now = omega (arith, lower, c.node_byte-x.ensures.0, c.requires.k_bound) in record {
      k_in_bounds = node_whole c.args.rule.now c.requires.expandable c.node_byte-x.result inside;
      k_lt_node_limit = omega (arith, inside, c.requires.expandable.layout.few_nodes);
      n_le_field_limit = c.requires.n_le_field_limit;
      index_le_field_limit = omega arith;
    }
