-- Each kind of fault refuses once those before it do not hold; what a passed test says of the block is what the next one asks.
use mathlib.Core.Path.{◌≡◌, sym, ap, ap₂, ◌∙◌, subst}
use mathlib.Core.Bool.{true}
use mathlib.Core.List.{List}
use Prim.Native.Nat.{ℕ, ◌+◌, ◌≤◌}
use native.Mathlib.Omega.{arith}
use borrow.Author.Tests.{not-true, not-false}
use Rattle.definitions.specs.Lists.{lowest}
use Rattle.definitions.specs.Reply.{bad_rule_record, bad_rule_order, bad_rule_expression, refused_at}
use Rattle.definitions.specs.Rule.{source_count, target_count, node_count, Rule, bad_vertex, bad_vertex_of, out_of_order, outputs_fit}
use Rattle.definitions.specs.VariadicBlock.{variadic_of, variadic_header_fits, bad_variadic_vertex, shared_outputs, bad_variadic_node}
use Rattle.rule_fields.specs.Fixed.{fixed_of}
use Rattle.rule_fields.specs.Layout.{WholeRule, LentRule, LayeredRule}
use Rattle.variadic_plain.specs.Plain.{plain_block}
use Rattle.variadic_plain.proofs.Laws.{same_source, same_target}
use Rattle.variadic_templates.specs.Templates.{bad_templates, ShortBelow}
use Rattle.variadic_check.proofs.Laws.{plain-whole, plain_same, block-whole, plain_found, short_below, found_inside, vertex-found, plain_layered, same_rule, block_readable, refused-vertex, refused-order, refused-outputs, refused_template, refused-node, refused_use, passed}
use borrow.Author.Rules.{rules}
use Rattle.variadic_check.proofs.check_parts.Goals as goal

pub source_count-sources-requires : goal.source_count-sources-requires
source_count-sources-requires c = let lent : LentRule c.args.rule.now = block-whole c.args.rule.now c.requires.rule_value in
    omega (arith, lent.whole.size)

pub target_count-requires : goal.target_count-requires
target_count-requires c = let lent : LentRule c.args.rule.now = block-whole c.args.rule.now c.requires.rule_value in
    omega (arith, lent.whole.size)

pub bad_vertex-requires : goal.bad_vertex-requires
bad_vertex-requires c = subst WholeRule (sym c.requires.plain_value) (plain-whole c.args.rule.now c.requires.rule_value).whole

pub returns-then-unfit-vertices : goal.returns-then-unfit-vertices
returns-then-unfit-vertices c = let first : c.bad_vertex.result ≡ plain_found c.args.rule.now c.requires.rule_value = let plain = plain_block c.args.rule.now in
    c.bad_vertex.ensures
    ∙ ap (λ (p : List ℕ). lowest (bad_vertex_of (fixed_of p) p) (source_count p + target_count p)) c.requires.plain_value
    ∙ ap (λ (r : Rule). lowest (bad_vertex_of r plain) (source_count plain + target_count plain)) (plain_same c.args.rule.now c.requires.rule_value)
    ∙ ap₂ (λ (n m : ℕ). lowest (bad_vertex plain) (n + m)) (same_source c.args.rule.now) (same_target c.args.rule.now) in
    let found : c.bad_templates-unfit.result ≡ lowest (bad_variadic_vertex c.args.rule.now) (source_count c.args.rule.now + target_count c.args.rule.now) = c.bad_templates-unfit.ensures ∙ ap (lowest (bad_templates c.args.rule.now)) first ∙ sym (vertex-found c.args.rule.now c.requires.rule_value) in
    let counted : c.source_count-sources.result + c.target_count.result ≡ source_count c.args.rule.now + target_count c.args.rule.now = ap₂ ◌+◌ c.source_count-sources.ensures.0 c.target_count.ensures.0 in
    c.refuse_at.ensures ∙ ap (refused_at bad_rule_record) found
    ∙ refused-vertex _ c.requires.rule_value (omega (arith, c.if-unfit-vertices.true, found, counted))

pub first_misplaced-misplaced-requires : goal.first_misplaced-misplaced-requires
first_misplaced-misplaced-requires c = let first : c.bad_vertex.result ≡ plain_found c.args.rule.now c.requires.rule_value = let plain = plain_block c.args.rule.now in
    c.bad_vertex.ensures
    ∙ ap (λ (p : List ℕ). lowest (bad_vertex_of (fixed_of p) p) (source_count p + target_count p)) c.requires.plain_value
    ∙ ap (λ (r : Rule). lowest (bad_vertex_of r plain) (source_count plain + target_count plain)) (plain_same c.args.rule.now c.requires.rule_value)
    ∙ ap₂ (λ (n m : ℕ). lowest (bad_vertex plain) (n + m)) (same_source c.args.rule.now) (same_target c.args.rule.now) in
    let found : c.bad_templates-unfit.result ≡ lowest (bad_variadic_vertex c.args.rule.now) (source_count c.args.rule.now + target_count c.args.rule.now) = c.bad_templates-unfit.ensures ∙ ap (lowest (bad_templates c.args.rule.now)) first ∙ sym (vertex-found c.args.rule.now c.requires.rule_value) in
    let counted : c.source_count-sources.result + c.target_count.result ≡ source_count c.args.rule.now + target_count c.args.rule.now = ap₂ ◌+◌ c.source_count-sources.ensures.0 c.target_count.ensures.0 in
    let vertices : let n = source_count c.args.rule.now + target_count c.args.rule.now in n ≤ lowest (bad_variadic_vertex c.args.rule.now) n = omega (arith, c.if-unfit-vertices.false, found, counted) in
    let layers : LayeredRule c.args.plain.now = subst LayeredRule (sym c.requires.plain_value) (plain_layered c.args.rule.now c.requires.rule_value vertices) in
    layers

pub returns-then-misplaced-sources : goal.returns-then-misplaced-sources
returns-then-misplaced-sources c = let first : c.bad_vertex.result ≡ plain_found c.args.rule.now c.requires.rule_value = let plain = plain_block c.args.rule.now in
    c.bad_vertex.ensures
    ∙ ap (λ (p : List ℕ). lowest (bad_vertex_of (fixed_of p) p) (source_count p + target_count p)) c.requires.plain_value
    ∙ ap (λ (r : Rule). lowest (bad_vertex_of r plain) (source_count plain + target_count plain)) (plain_same c.args.rule.now c.requires.rule_value)
    ∙ ap₂ (λ (n m : ℕ). lowest (bad_vertex plain) (n + m)) (same_source c.args.rule.now) (same_target c.args.rule.now) in
    let found : c.bad_templates-unfit.result ≡ lowest (bad_variadic_vertex c.args.rule.now) (source_count c.args.rule.now + target_count c.args.rule.now) = c.bad_templates-unfit.ensures ∙ ap (lowest (bad_templates c.args.rule.now)) first ∙ sym (vertex-found c.args.rule.now c.requires.rule_value) in
    let counted : c.source_count-sources.result + c.target_count.result ≡ source_count c.args.rule.now + target_count c.args.rule.now = ap₂ ◌+◌ c.source_count-sources.ensures.0 c.target_count.ensures.0 in
    let vertices : let n = source_count c.args.rule.now + target_count c.args.rule.now in n ≤ lowest (bad_variadic_vertex c.args.rule.now) n = omega (arith, c.if-unfit-vertices.false, found, counted) in
    let misplaced : let rule = c.args.rule.now in
    c.first_misplaced-misplaced.result ≡ lowest (out_of_order (variadic_of rule).plain) (source_count rule) = c.first_misplaced-misplaced.ensures
    ∙ ap (λ (p : List ℕ). lowest (out_of_order (fixed_of p)) (source_count p)) c.requires.plain_value
    ∙ ap₂ (λ (r : Rule) (n : ℕ). lowest (out_of_order r) n) (same_rule c.args.rule.now c.requires.rule_value vertices) (same_source c.args.rule.now) in
    let sources : c.source_count-sources.result ≡ source_count c.args.rule.now = c.source_count-sources.ensures.0 in
    c.refuse_at-then-misplaced-sources.ensures ∙ ap (refused_at bad_rule_order) misplaced
    ∙ refused-order _ c.requires.rule_value vertices (omega (arith, c.if-misplaced-sources.true, misplaced, sources))

pub outputs_fit-requires : goal.outputs_fit-requires
outputs_fit-requires c = let first : c.bad_vertex.result ≡ plain_found c.args.rule.now c.requires.rule_value = let plain = plain_block c.args.rule.now in
    c.bad_vertex.ensures
    ∙ ap (λ (p : List ℕ). lowest (bad_vertex_of (fixed_of p) p) (source_count p + target_count p)) c.requires.plain_value
    ∙ ap (λ (r : Rule). lowest (bad_vertex_of r plain) (source_count plain + target_count plain)) (plain_same c.args.rule.now c.requires.rule_value)
    ∙ ap₂ (λ (n m : ℕ). lowest (bad_vertex plain) (n + m)) (same_source c.args.rule.now) (same_target c.args.rule.now) in
    let found : c.bad_templates-unfit.result ≡ lowest (bad_variadic_vertex c.args.rule.now) (source_count c.args.rule.now + target_count c.args.rule.now) = c.bad_templates-unfit.ensures ∙ ap (lowest (bad_templates c.args.rule.now)) first ∙ sym (vertex-found c.args.rule.now c.requires.rule_value) in
    let counted : c.source_count-sources.result + c.target_count.result ≡ source_count c.args.rule.now + target_count c.args.rule.now = ap₂ ◌+◌ c.source_count-sources.ensures.0 c.target_count.ensures.0 in
    let vertices : let n = source_count c.args.rule.now + target_count c.args.rule.now in n ≤ lowest (bad_variadic_vertex c.args.rule.now) n = omega (arith, c.if-unfit-vertices.false, found, counted) in
    let layers : LayeredRule c.args.plain.now = subst LayeredRule (sym c.requires.plain_value) (plain_layered c.args.rule.now c.requires.rule_value vertices) in
    layers

pub returns-then-not-outputs_fit : goal.returns-then-not-outputs_fit
returns-then-not-outputs_fit c = let first : c.bad_vertex.result ≡ plain_found c.args.rule.now c.requires.rule_value = let plain = plain_block c.args.rule.now in
    c.bad_vertex.ensures
    ∙ ap (λ (p : List ℕ). lowest (bad_vertex_of (fixed_of p) p) (source_count p + target_count p)) c.requires.plain_value
    ∙ ap (λ (r : Rule). lowest (bad_vertex_of r plain) (source_count plain + target_count plain)) (plain_same c.args.rule.now c.requires.rule_value)
    ∙ ap₂ (λ (n m : ℕ). lowest (bad_vertex plain) (n + m)) (same_source c.args.rule.now) (same_target c.args.rule.now) in
    let found : c.bad_templates-unfit.result ≡ lowest (bad_variadic_vertex c.args.rule.now) (source_count c.args.rule.now + target_count c.args.rule.now) = c.bad_templates-unfit.ensures ∙ ap (lowest (bad_templates c.args.rule.now)) first ∙ sym (vertex-found c.args.rule.now c.requires.rule_value) in
    let counted : c.source_count-sources.result + c.target_count.result ≡ source_count c.args.rule.now + target_count c.args.rule.now = ap₂ ◌+◌ c.source_count-sources.ensures.0 c.target_count.ensures.0 in
    let vertices : let n = source_count c.args.rule.now + target_count c.args.rule.now in n ≤ lowest (bad_variadic_vertex c.args.rule.now) n = omega (arith, c.if-unfit-vertices.false, found, counted) in
    let misplaced : let rule = c.args.rule.now in
    c.first_misplaced-misplaced.result ≡ lowest (out_of_order (variadic_of rule).plain) (source_count rule) = c.first_misplaced-misplaced.ensures
    ∙ ap (λ (p : List ℕ). lowest (out_of_order (fixed_of p)) (source_count p)) c.requires.plain_value
    ∙ ap₂ (λ (r : Rule) (n : ℕ). lowest (out_of_order r) n) (same_rule c.args.rule.now c.requires.rule_value vertices) (same_source c.args.rule.now) in
    let sources : c.source_count-sources.result ≡ source_count c.args.rule.now = c.source_count-sources.ensures.0 in
    let order : let rule = c.args.rule.now in source_count rule ≤ lowest (out_of_order (variadic_of rule).plain) (source_count rule) = omega (arith, c.if-misplaced-sources.false, misplaced, sources) in
    let fitting : c.outputs_fit.result ≡ outputs_fit (variadic_of c.args.rule.now).plain = c.outputs_fit.ensures
    ∙ ap (λ (p : List ℕ). outputs_fit (fixed_of p)) c.requires.plain_value
    ∙ ap outputs_fit (same_rule c.args.rule.now c.requires.rule_value vertices) in
    c.refuse.ensures
    ∙ refused-outputs _ c.requires.rule_value vertices order (sym fitting ∙ c.if-not-outputs_fit.true)

pub shared_outputs-requires : goal.shared_outputs-requires
shared_outputs-requires c = let lent : LentRule c.args.rule.now = block-whole c.args.rule.now c.requires.rule_value in
    (lent).whole

pub returns-then-not-shared_outputs : goal.returns-then-not-shared_outputs
returns-then-not-shared_outputs c = let first : c.bad_vertex.result ≡ plain_found c.args.rule.now c.requires.rule_value = let plain = plain_block c.args.rule.now in
    c.bad_vertex.ensures
    ∙ ap (λ (p : List ℕ). lowest (bad_vertex_of (fixed_of p) p) (source_count p + target_count p)) c.requires.plain_value
    ∙ ap (λ (r : Rule). lowest (bad_vertex_of r plain) (source_count plain + target_count plain)) (plain_same c.args.rule.now c.requires.rule_value)
    ∙ ap₂ (λ (n m : ℕ). lowest (bad_vertex plain) (n + m)) (same_source c.args.rule.now) (same_target c.args.rule.now) in
    let found : c.bad_templates-unfit.result ≡ lowest (bad_variadic_vertex c.args.rule.now) (source_count c.args.rule.now + target_count c.args.rule.now) = c.bad_templates-unfit.ensures ∙ ap (lowest (bad_templates c.args.rule.now)) first ∙ sym (vertex-found c.args.rule.now c.requires.rule_value) in
    let counted : c.source_count-sources.result + c.target_count.result ≡ source_count c.args.rule.now + target_count c.args.rule.now = ap₂ ◌+◌ c.source_count-sources.ensures.0 c.target_count.ensures.0 in
    let vertices : let n = source_count c.args.rule.now + target_count c.args.rule.now in n ≤ lowest (bad_variadic_vertex c.args.rule.now) n = omega (arith, c.if-unfit-vertices.false, found, counted) in
    let misplaced : let rule = c.args.rule.now in
    c.first_misplaced-misplaced.result ≡ lowest (out_of_order (variadic_of rule).plain) (source_count rule) = c.first_misplaced-misplaced.ensures
    ∙ ap (λ (p : List ℕ). lowest (out_of_order (fixed_of p)) (source_count p)) c.requires.plain_value
    ∙ ap₂ (λ (r : Rule) (n : ℕ). lowest (out_of_order r) n) (same_rule c.args.rule.now c.requires.rule_value vertices) (same_source c.args.rule.now) in
    let sources : c.source_count-sources.result ≡ source_count c.args.rule.now = c.source_count-sources.ensures.0 in
    let order : let rule = c.args.rule.now in source_count rule ≤ lowest (out_of_order (variadic_of rule).plain) (source_count rule) = omega (arith, c.if-misplaced-sources.false, misplaced, sources) in
    let fitting : c.outputs_fit.result ≡ outputs_fit (variadic_of c.args.rule.now).plain = c.outputs_fit.ensures
    ∙ ap (λ (p : List ℕ). outputs_fit (fixed_of p)) c.requires.plain_value
    ∙ ap outputs_fit (same_rule c.args.rule.now c.requires.rule_value vertices) in
    let outputs : outputs_fit (variadic_of c.args.rule.now).plain ≡ true = sym fitting ∙ c.if-not-outputs_fit.false in
    c.refuse-then-not-shared_outputs.ensures
    ∙ refused_template _ c.requires.rule_value vertices order outputs
    (sym c.shared_outputs.ensures ∙ c.if-not-shared_outputs.true)

pub bad_node-node-requires : goal.bad_node-node-requires
bad_node-node-requires c = let lent : LentRule c.args.rule.now = block-whole c.args.rule.now c.requires.rule_value in
    lent

pub node_count-requires : goal.node_count-requires
node_count-requires c = let lent : LentRule c.args.rule.now = block-whole c.args.rule.now c.requires.rule_value in
    omega (arith, lent.whole.size)

pub returns-then-node-node_count : goal.returns-then-node-node_count
returns-then-node-node_count c = let first : c.bad_vertex.result ≡ plain_found c.args.rule.now c.requires.rule_value = let plain = plain_block c.args.rule.now in
    c.bad_vertex.ensures
    ∙ ap (λ (p : List ℕ). lowest (bad_vertex_of (fixed_of p) p) (source_count p + target_count p)) c.requires.plain_value
    ∙ ap (λ (r : Rule). lowest (bad_vertex_of r plain) (source_count plain + target_count plain)) (plain_same c.args.rule.now c.requires.rule_value)
    ∙ ap₂ (λ (n m : ℕ). lowest (bad_vertex plain) (n + m)) (same_source c.args.rule.now) (same_target c.args.rule.now) in
    let found : c.bad_templates-unfit.result ≡ lowest (bad_variadic_vertex c.args.rule.now) (source_count c.args.rule.now + target_count c.args.rule.now) = c.bad_templates-unfit.ensures ∙ ap (lowest (bad_templates c.args.rule.now)) first ∙ sym (vertex-found c.args.rule.now c.requires.rule_value) in
    let counted : c.source_count-sources.result + c.target_count.result ≡ source_count c.args.rule.now + target_count c.args.rule.now = ap₂ ◌+◌ c.source_count-sources.ensures.0 c.target_count.ensures.0 in
    let vertices : let n = source_count c.args.rule.now + target_count c.args.rule.now in n ≤ lowest (bad_variadic_vertex c.args.rule.now) n = omega (arith, c.if-unfit-vertices.false, found, counted) in
    let misplaced : let rule = c.args.rule.now in
    c.first_misplaced-misplaced.result ≡ lowest (out_of_order (variadic_of rule).plain) (source_count rule) = c.first_misplaced-misplaced.ensures
    ∙ ap (λ (p : List ℕ). lowest (out_of_order (fixed_of p)) (source_count p)) c.requires.plain_value
    ∙ ap₂ (λ (r : Rule) (n : ℕ). lowest (out_of_order r) n) (same_rule c.args.rule.now c.requires.rule_value vertices) (same_source c.args.rule.now) in
    let sources : c.source_count-sources.result ≡ source_count c.args.rule.now = c.source_count-sources.ensures.0 in
    let order : let rule = c.args.rule.now in source_count rule ≤ lowest (out_of_order (variadic_of rule).plain) (source_count rule) = omega (arith, c.if-misplaced-sources.false, misplaced, sources) in
    let fitting : c.outputs_fit.result ≡ outputs_fit (variadic_of c.args.rule.now).plain = c.outputs_fit.ensures
    ∙ ap (λ (p : List ℕ). outputs_fit (fixed_of p)) c.requires.plain_value
    ∙ ap outputs_fit (same_rule c.args.rule.now c.requires.rule_value vertices) in
    let outputs : outputs_fit (variadic_of c.args.rule.now).plain ≡ true = sym fitting ∙ c.if-not-outputs_fit.false in
    let shared : shared_outputs (variadic_of c.args.rule.now) ≡ true = sym c.shared_outputs.ensures ∙ c.if-not-shared_outputs.false in
    c.refuse_at-then-node-node_count.ensures ∙ ap (refused_at bad_rule_expression) c.bad_node-node.ensures
    ∙ refused-node _ c.requires.rule_value vertices order outputs shared
    (omega (arith, c.if-node-node_count.true, c.bad_node-node.ensures, c.node_count.ensures.0))

pub returns-then-user-vertices : goal.returns-then-user-vertices
returns-then-user-vertices c = let first : c.bad_vertex.result ≡ plain_found c.args.rule.now c.requires.rule_value = let plain = plain_block c.args.rule.now in
    c.bad_vertex.ensures
    ∙ ap (λ (p : List ℕ). lowest (bad_vertex_of (fixed_of p) p) (source_count p + target_count p)) c.requires.plain_value
    ∙ ap (λ (r : Rule). lowest (bad_vertex_of r plain) (source_count plain + target_count plain)) (plain_same c.args.rule.now c.requires.rule_value)
    ∙ ap₂ (λ (n m : ℕ). lowest (bad_vertex plain) (n + m)) (same_source c.args.rule.now) (same_target c.args.rule.now) in
    let found : c.bad_templates-unfit.result ≡ lowest (bad_variadic_vertex c.args.rule.now) (source_count c.args.rule.now + target_count c.args.rule.now) = c.bad_templates-unfit.ensures ∙ ap (lowest (bad_templates c.args.rule.now)) first ∙ sym (vertex-found c.args.rule.now c.requires.rule_value) in
    let counted : c.source_count-sources.result + c.target_count.result ≡ source_count c.args.rule.now + target_count c.args.rule.now = ap₂ ◌+◌ c.source_count-sources.ensures.0 c.target_count.ensures.0 in
    let vertices : let n = source_count c.args.rule.now + target_count c.args.rule.now in n ≤ lowest (bad_variadic_vertex c.args.rule.now) n = omega (arith, c.if-unfit-vertices.false, found, counted) in
    let misplaced : let rule = c.args.rule.now in
    c.first_misplaced-misplaced.result ≡ lowest (out_of_order (variadic_of rule).plain) (source_count rule) = c.first_misplaced-misplaced.ensures
    ∙ ap (λ (p : List ℕ). lowest (out_of_order (fixed_of p)) (source_count p)) c.requires.plain_value
    ∙ ap₂ (λ (r : Rule) (n : ℕ). lowest (out_of_order r) n) (same_rule c.args.rule.now c.requires.rule_value vertices) (same_source c.args.rule.now) in
    let sources : c.source_count-sources.result ≡ source_count c.args.rule.now = c.source_count-sources.ensures.0 in
    let order : let rule = c.args.rule.now in source_count rule ≤ lowest (out_of_order (variadic_of rule).plain) (source_count rule) = omega (arith, c.if-misplaced-sources.false, misplaced, sources) in
    let fitting : c.outputs_fit.result ≡ outputs_fit (variadic_of c.args.rule.now).plain = c.outputs_fit.ensures
    ∙ ap (λ (p : List ℕ). outputs_fit (fixed_of p)) c.requires.plain_value
    ∙ ap outputs_fit (same_rule c.args.rule.now c.requires.rule_value vertices) in
    let outputs : outputs_fit (variadic_of c.args.rule.now).plain ≡ true = sym fitting ∙ c.if-not-outputs_fit.false in
    let shared : shared_outputs (variadic_of c.args.rule.now) ≡ true = sym c.shared_outputs.ensures ∙ c.if-not-shared_outputs.false in
    let nodes : let rule = c.args.rule.now in node_count rule ≤ lowest (bad_variadic_node rule) (node_count rule) = omega (arith, c.if-node-node_count.false, c.bad_node-node.ensures, c.node_count.ensures.0) in
    c.refuse_at-then-user-vertices.ensures ∙ ap (refused_at bad_rule_expression) c.bad_use-user.ensures
    ∙ refused_use _ c.requires.rule_value vertices order outputs shared nodes
    (omega (arith, c.if-user-vertices.true, c.bad_use-user.ensures, counted))

pub returns : goal.returns
returns c = let first : c.bad_vertex.result ≡ plain_found c.args.rule.now c.requires.rule_value = let plain = plain_block c.args.rule.now in
    c.bad_vertex.ensures
    ∙ ap (λ (p : List ℕ). lowest (bad_vertex_of (fixed_of p) p) (source_count p + target_count p)) c.requires.plain_value
    ∙ ap (λ (r : Rule). lowest (bad_vertex_of r plain) (source_count plain + target_count plain)) (plain_same c.args.rule.now c.requires.rule_value)
    ∙ ap₂ (λ (n m : ℕ). lowest (bad_vertex plain) (n + m)) (same_source c.args.rule.now) (same_target c.args.rule.now) in
    let found : c.bad_templates-unfit.result ≡ lowest (bad_variadic_vertex c.args.rule.now) (source_count c.args.rule.now + target_count c.args.rule.now) = c.bad_templates-unfit.ensures ∙ ap (lowest (bad_templates c.args.rule.now)) first ∙ sym (vertex-found c.args.rule.now c.requires.rule_value) in
    let counted : c.source_count-sources.result + c.target_count.result ≡ source_count c.args.rule.now + target_count c.args.rule.now = ap₂ ◌+◌ c.source_count-sources.ensures.0 c.target_count.ensures.0 in
    let vertices : let n = source_count c.args.rule.now + target_count c.args.rule.now in n ≤ lowest (bad_variadic_vertex c.args.rule.now) n = omega (arith, c.if-unfit-vertices.false, found, counted) in
    let misplaced : let rule = c.args.rule.now in
    c.first_misplaced-misplaced.result ≡ lowest (out_of_order (variadic_of rule).plain) (source_count rule) = c.first_misplaced-misplaced.ensures
    ∙ ap (λ (p : List ℕ). lowest (out_of_order (fixed_of p)) (source_count p)) c.requires.plain_value
    ∙ ap₂ (λ (r : Rule) (n : ℕ). lowest (out_of_order r) n) (same_rule c.args.rule.now c.requires.rule_value vertices) (same_source c.args.rule.now) in
    let sources : c.source_count-sources.result ≡ source_count c.args.rule.now = c.source_count-sources.ensures.0 in
    let order : let rule = c.args.rule.now in source_count rule ≤ lowest (out_of_order (variadic_of rule).plain) (source_count rule) = omega (arith, c.if-misplaced-sources.false, misplaced, sources) in
    let fitting : c.outputs_fit.result ≡ outputs_fit (variadic_of c.args.rule.now).plain = c.outputs_fit.ensures
    ∙ ap (λ (p : List ℕ). outputs_fit (fixed_of p)) c.requires.plain_value
    ∙ ap outputs_fit (same_rule c.args.rule.now c.requires.rule_value vertices) in
    let outputs : outputs_fit (variadic_of c.args.rule.now).plain ≡ true = sym fitting ∙ c.if-not-outputs_fit.false in
    let shared : shared_outputs (variadic_of c.args.rule.now) ≡ true = sym c.shared_outputs.ensures ∙ c.if-not-shared_outputs.false in
    let nodes : let rule = c.args.rule.now in node_count rule ≤ lowest (bad_variadic_node rule) (node_count rule) = omega (arith, c.if-node-node_count.false, c.bad_node-node.ensures, c.node_count.ensures.0) in
    passed _ c.requires.rule_value vertices order outputs shared nodes
    (omega (arith, c.if-user-vertices.false, c.bad_use-user.ensures, counted))

pub bad_templates-unfit-requires-clause-whole_rule : goal.bad_templates-unfit-requires-clause-whole_rule
bad_templates-unfit-requires-clause-whole_rule c = let first : c.bad_vertex.result ≡ plain_found c.args.rule.now c.requires.rule_value = let plain = plain_block c.args.rule.now in
    c.bad_vertex.ensures
    ∙ ap (λ (p : List ℕ). lowest (bad_vertex_of (fixed_of p) p) (source_count p + target_count p)) c.requires.plain_value
    ∙ ap (λ (r : Rule). lowest (bad_vertex_of r plain) (source_count plain + target_count plain)) (plain_same c.args.rule.now c.requires.rule_value)
    ∙ ap₂ (λ (n m : ℕ). lowest (bad_vertex plain) (n + m)) (same_source c.args.rule.now) (same_target c.args.rule.now) in
    let lent : LentRule c.args.rule.now = block-whole c.args.rule.now c.requires.rule_value in
    let e = first in (lent).whole

pub bad_templates-unfit-requires-clause-end_bound : goal.bad_templates-unfit-requires-clause-end_bound
bad_templates-unfit-requires-clause-end_bound c = let first : c.bad_vertex.result ≡ plain_found c.args.rule.now c.requires.rule_value = let plain = plain_block c.args.rule.now in
    c.bad_vertex.ensures
    ∙ ap (λ (p : List ℕ). lowest (bad_vertex_of (fixed_of p) p) (source_count p + target_count p)) c.requires.plain_value
    ∙ ap (λ (r : Rule). lowest (bad_vertex_of r plain) (source_count plain + target_count plain)) (plain_same c.args.rule.now c.requires.rule_value)
    ∙ ap₂ (λ (n m : ℕ). lowest (bad_vertex plain) (n + m)) (same_source c.args.rule.now) (same_target c.args.rule.now) in
    let lent : LentRule c.args.rule.now = block-whole c.args.rule.now c.requires.rule_value in
    let e = first in omega (arith, e, found_inside c.args.rule.now c.requires.rule_value)

pub bad_templates-unfit-requires-clause-short_below : goal.bad_templates-unfit-requires-clause-short_below
bad_templates-unfit-requires-clause-short_below c = let first : c.bad_vertex.result ≡ plain_found c.args.rule.now c.requires.rule_value = let plain = plain_block c.args.rule.now in
    c.bad_vertex.ensures
    ∙ ap (λ (p : List ℕ). lowest (bad_vertex_of (fixed_of p) p) (source_count p + target_count p)) c.requires.plain_value
    ∙ ap (λ (r : Rule). lowest (bad_vertex_of r plain) (source_count plain + target_count plain)) (plain_same c.args.rule.now c.requires.rule_value)
    ∙ ap₂ (λ (n m : ℕ). lowest (bad_vertex plain) (n + m)) (same_source c.args.rule.now) (same_target c.args.rule.now) in
    let lent : LentRule c.args.rule.now = block-whole c.args.rule.now c.requires.rule_value in
    let e = first in subst (ShortBelow c.args.rule.now) (sym e) (short_below c.args.rule.now c.requires.rule_value)

pub bad_use-user-requires-clause-readable_rule : goal.bad_use-user-requires-clause-readable_rule
bad_use-user-requires-clause-readable_rule c = let first : c.bad_vertex.result ≡ plain_found c.args.rule.now c.requires.rule_value = let plain = plain_block c.args.rule.now in
    c.bad_vertex.ensures
    ∙ ap (λ (p : List ℕ). lowest (bad_vertex_of (fixed_of p) p) (source_count p + target_count p)) c.requires.plain_value
    ∙ ap (λ (r : Rule). lowest (bad_vertex_of r plain) (source_count plain + target_count plain)) (plain_same c.args.rule.now c.requires.rule_value)
    ∙ ap₂ (λ (n m : ℕ). lowest (bad_vertex plain) (n + m)) (same_source c.args.rule.now) (same_target c.args.rule.now) in
    let found : c.bad_templates-unfit.result ≡ lowest (bad_variadic_vertex c.args.rule.now) (source_count c.args.rule.now + target_count c.args.rule.now) = c.bad_templates-unfit.ensures ∙ ap (lowest (bad_templates c.args.rule.now)) first ∙ sym (vertex-found c.args.rule.now c.requires.rule_value) in
    let counted : c.source_count-sources.result + c.target_count.result ≡ source_count c.args.rule.now + target_count c.args.rule.now = ap₂ ◌+◌ c.source_count-sources.ensures.0 c.target_count.ensures.0 in
    let vertices : let n = source_count c.args.rule.now + target_count c.args.rule.now in n ≤ lowest (bad_variadic_vertex c.args.rule.now) n = omega (arith, c.if-unfit-vertices.false, found, counted) in
    let lent : LentRule c.args.rule.now = block-whole c.args.rule.now c.requires.rule_value in
    let nodes : let rule = c.args.rule.now in node_count rule ≤ lowest (bad_variadic_node rule) (node_count rule) = omega (arith, c.if-node-node_count.false, c.bad_node-node.ensures, c.node_count.ensures.0) in
    block_readable c.args.rule.now c.requires.rule_value vertices

pub bad_use-user-requires-clause-lent_rule : goal.bad_use-user-requires-clause-lent_rule
bad_use-user-requires-clause-lent_rule c = let first : c.bad_vertex.result ≡ plain_found c.args.rule.now c.requires.rule_value = let plain = plain_block c.args.rule.now in
    c.bad_vertex.ensures
    ∙ ap (λ (p : List ℕ). lowest (bad_vertex_of (fixed_of p) p) (source_count p + target_count p)) c.requires.plain_value
    ∙ ap (λ (r : Rule). lowest (bad_vertex_of r plain) (source_count plain + target_count plain)) (plain_same c.args.rule.now c.requires.rule_value)
    ∙ ap₂ (λ (n m : ℕ). lowest (bad_vertex plain) (n + m)) (same_source c.args.rule.now) (same_target c.args.rule.now) in
    let found : c.bad_templates-unfit.result ≡ lowest (bad_variadic_vertex c.args.rule.now) (source_count c.args.rule.now + target_count c.args.rule.now) = c.bad_templates-unfit.ensures ∙ ap (lowest (bad_templates c.args.rule.now)) first ∙ sym (vertex-found c.args.rule.now c.requires.rule_value) in
    let counted : c.source_count-sources.result + c.target_count.result ≡ source_count c.args.rule.now + target_count c.args.rule.now = ap₂ ◌+◌ c.source_count-sources.ensures.0 c.target_count.ensures.0 in
    let vertices : let n = source_count c.args.rule.now + target_count c.args.rule.now in n ≤ lowest (bad_variadic_vertex c.args.rule.now) n = omega (arith, c.if-unfit-vertices.false, found, counted) in
    let lent : LentRule c.args.rule.now = block-whole c.args.rule.now c.requires.rule_value in
    let nodes : let rule = c.args.rule.now in node_count rule ≤ lowest (bad_variadic_node rule) (node_count rule) = omega (arith, c.if-node-node_count.false, c.bad_node-node.ensures, c.node_count.ensures.0) in
    lent
