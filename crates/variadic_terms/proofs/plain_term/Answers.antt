-- The forms are told apart as in the definition. What is left is an operation, whose operands are earlier nodes.
use mathlib.Core.Path.{◌≡◌, sym, ap, ◌∙◌}
use mathlib.Core.Bool.{true}
use Prim.Native.Nat.{ℕ, ◌<◌, ◌≤◌}
use native.Mathlib.Omega.{arith}
use borrow.Author.Tests.{ne_eqb}
use Rattle.definitions.specs.Rule.{node_count, form_access, form_remainder, form_index, node_form}
use Rattle.definitions.specs.VariadicBlock.{variadic_node_fits}
use Rattle.variadic_terms.specs.Terms.{term_of, number_in}
use Rattle.variadic_terms.proofs.Fits.{node_whole, operation_form, left_before, right_before}
use Rattle.variadic_terms.proofs.Cases.{same_operation, plain-any, plain_constant, plain_access, plain_index, plain_operation}
use Rattle.variadic_terms.proofs.plain_term.Goals as goal

pub returns-then-form-eq-FORM_ANY : goal.returns-then-form-eq-FORM_ANY
returns-then-form-eq-FORM_ANY c = c.any_term.ensures
    ∙ sym (plain-any c.args.rule.now (number_in c.args.numbers.now c.args.count) c.args.n c.args.k c.args.i
    (sym c.node_form-form.ensures.0 ∙ c.if-form-eq-FORM_ANY.true))

pub returns-then-form-eq-FORM_CONSTANT : goal.returns-then-form-eq-FORM_CONSTANT
returns-then-form-eq-FORM_CONSTANT c = c.same_constant.ensures
    ∙ sym (plain_constant c.args.rule.now (number_in c.args.numbers.now c.args.count) c.args.n c.args.k c.args.i
    (sym c.node_form-form.ensures.0 ∙ c.if-form-eq-FORM_CONSTANT.true))

pub returns-then-form-eq-FORM_ACCESS : goal.returns-then-form-eq-FORM_ACCESS
returns-then-form-eq-FORM_ACCESS c = c.access_term.ensures c.args.n
    ∙ sym (plain_access c.args.rule.now (number_in c.args.numbers.now c.args.count) c.args.n c.args.k c.args.i
    (sym c.node_form-form.ensures.0 ∙ c.if-form-eq-FORM_ACCESS.true))

pub returns-then-form-eq-FORM_INDEX : goal.returns-then-form-eq-FORM_INDEX
returns-then-form-eq-FORM_INDEX c = c.constant_term.ensures
    ∙ sym (plain_index c.args.rule.now (number_in c.args.numbers.now c.args.count) c.args.n c.args.k c.args.i
    (sym c.node_form-form.ensures.0 ∙ c.if-form-eq-FORM_INDEX.true))

pub returns : goal.returns
returns c = let more : form_access < node_form c.args.rule.now c.args.k = omega (arith, c.node_form-form.ensures.0, c.if-form-eq-FORM_ANY.false, c.if-form-eq-FORM_CONSTANT.false, c.if-form-eq-FORM_ACCESS.false) in
    let fits : variadic_node_fits c.args.rule.now c.args.k ≡ true = c.requires.expandable.nodes c.args.k c.requires.k_bound in
    let few : node_form c.args.rule.now c.args.k ≤ form_remainder = let form = node_form c.args.rule.now c.args.k in
    operation_form c.args.rule.now c.args.k fits (ne_eqb form form_index (λ f. c.if-form-eq-FORM_INDEX.false (c.node_form-form.ensures.0 ∙ f)))
    c.requires.form_sum_value in
    c.operation_term.ensures
    ∙ same_operation c.node_form-form.ensures.0
    (c.term_of-left.ensures.0 ∙ ap (λ (x : ℕ). term_of c.args.rule.now c.args.n x c.args.i) c.node_byte.ensures.0)
    (c.term_of-right.ensures.0 ∙ ap (λ (x : ℕ). term_of c.args.rule.now c.args.n x c.args.i) c.node_byte-2.ensures.0)
    ∙ sym (plain_operation c.args.rule.now (number_in c.args.numbers.now c.args.count) c.args.n c.args.k c.args.i more few)

pub term_of-left-requires : goal.term_of-left-requires
term_of-left-requires c = let fits : variadic_node_fits c.args.rule.now c.args.k ≡ true = c.requires.expandable.nodes c.args.k c.requires.k_bound in
    let more : form_access < node_form c.args.rule.now c.args.k = omega (arith, c.node_form-form.ensures.0, c.if-form-eq-FORM_ANY.false, c.if-form-eq-FORM_CONSTANT.false, c.if-form-eq-FORM_ACCESS.false) in
    let few : node_form c.args.rule.now c.args.k ≤ form_remainder = let form = node_form c.args.rule.now c.args.k in
    operation_form c.args.rule.now c.args.k fits (ne_eqb form form_index (λ f. c.if-form-eq-FORM_INDEX.false (c.node_form-form.ensures.0 ∙ f)))
    c.requires.form_sum_value in
    let lower = left_before c.args.rule.now c.args.k fits more few in
    let inside : c.node_byte.result < node_count c.args.rule.now = omega (arith, lower, c.node_byte.ensures.0, c.requires.k_bound) in record {
      k_in_bounds = node_whole c.args.rule.now c.requires.expandable c.node_byte.result inside;
      k_lt_node_limit = omega (arith, inside, c.requires.expandable.layout.few_nodes);
      n_le_field_limit = c.requires.n_le_field_limit;
      index_le_field_limit = omega arith;
    }

pub term_of-right-requires : goal.term_of-right-requires
term_of-right-requires c = let fits : variadic_node_fits c.args.rule.now c.args.k ≡ true = c.requires.expandable.nodes c.args.k c.requires.k_bound in
    let more : form_access < node_form c.args.rule.now c.args.k = omega (arith, c.node_form-form.ensures.0, c.if-form-eq-FORM_ANY.false, c.if-form-eq-FORM_CONSTANT.false, c.if-form-eq-FORM_ACCESS.false) in
    let few : node_form c.args.rule.now c.args.k ≤ form_remainder = let form = node_form c.args.rule.now c.args.k in
    operation_form c.args.rule.now c.args.k fits (ne_eqb form form_index (λ f. c.if-form-eq-FORM_INDEX.false (c.node_form-form.ensures.0 ∙ f)))
    c.requires.form_sum_value in
    let lower = right_before c.args.rule.now c.args.k fits more few in
    let inside : c.node_byte-2.result < node_count c.args.rule.now = omega (arith, lower, c.node_byte-2.ensures.0, c.requires.k_bound) in record {
      k_in_bounds = node_whole c.args.rule.now c.requires.expandable c.node_byte-2.result inside;
      k_lt_node_limit = omega (arith, inside, c.requires.expandable.layout.few_nodes);
      n_le_field_limit = c.requires.n_le_field_limit;
      index_le_field_limit = omega arith;
    }
