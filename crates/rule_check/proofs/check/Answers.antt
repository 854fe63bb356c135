-- Each kind of fault refuses once those before it do not hold; what a passed test says of the block is what the next one asks.
use borrow.Author.Rules.{rules}
use borrow.Author.Tests.{not-true, not-false}
use mathlib.Core.Path.{◌≡◌, sym, ap, ◌∙◌}
use mathlib.Core.Bool.{true}
use mathlib.Core.List.{List}
use Prim.Native.Nat.{ℕ, ◌+◌, ◌≤◌}
use native.Mathlib.Omega.{arith}
use Rattle.definitions.specs.Lists.{lowest}
use Rattle.definitions.specs.Reply.{bad_rule_record, bad_rule_order, bad_rule_expression, refused_at}
use Rattle.definitions.specs.Rule.{side_limit, source_count, target_count, node_count, rule_of, rule_header_fits, bad_vertex, out_of_order, outputs_fit, bad_node}
use Rattle.rule_fields.specs.Layout.{LentRule, ReadableRule, LayeredRule}
use Rattle.rule_fields.specs.Fixed.{fixed_of}
use Rattle.rule_fields.proofs.Fixed.{lent_rule_lem}
use Rattle.rule_check.proofs.Laws.{header_lent, whole, readable, layered, refused-header, refused-vertex, refused-order, refused-outputs, refused-node, refused_use, sound}
use Rattle.rule_check.proofs.check.Goals as goal

pub returns-then-not-header_fits : goal.returns-then-not-header_fits
returns-then-not-header_fits c = c.refuse.ensures
    ∙ refused-header _ (sym c.header_fits.ensures ∙ c.if-not-header_fits.true)

pub source_count-sources-requires : goal.source_count-sources-requires
source_count-sources-requires c = let header : rule_header_fits side_limit c.args.rule.now ≡ true = sym c.header_fits.ensures ∙ c.if-not-header_fits.false in
    let laid_out : LentRule c.args.rule.now = whole c.args.rule.now header in
    omega (arith, laid_out.whole.size)

pub target_count-requires : goal.target_count-requires
target_count-requires c = let header : rule_header_fits side_limit c.args.rule.now ≡ true = sym c.header_fits.ensures ∙ c.if-not-header_fits.false in
    let laid_out : LentRule c.args.rule.now = whole c.args.rule.now header in
    omega (arith, laid_out.whole.size)

pub bad_vertex-unfit-requires : goal.bad_vertex-unfit-requires
bad_vertex-unfit-requires c = let header : rule_header_fits side_limit c.args.rule.now ≡ true = sym c.header_fits.ensures ∙ c.if-not-header_fits.false in
    let laid_out : LentRule c.args.rule.now = whole c.args.rule.now header in
    (laid_out).whole

pub returns-then-unfit-vertices : goal.returns-then-unfit-vertices
returns-then-unfit-vertices c = let header : rule_header_fits side_limit c.args.rule.now ≡ true = sym c.header_fits.ensures ∙ c.if-not-header_fits.false in
    let same : fixed_of c.args.rule.now ≡ rule_of c.args.rule.now = lent_rule_lem c.args.rule.now (header_lent c.args.rule.now header) in
    let found = rw same at c.bad_vertex-unfit.ensures in
    c.refuse_at.ensures ∙ ap (refused_at bad_rule_record) found
    ∙ refused-vertex _ header
    (omega (arith, found, c.target_count.ensures.0, c.source_count-sources.ensures.0))

pub first_misplaced-misplaced-requires : goal.first_misplaced-misplaced-requires
first_misplaced-misplaced-requires c = let header : rule_header_fits side_limit c.args.rule.now ≡ true = sym c.header_fits.ensures ∙ c.if-not-header_fits.false in
    let same : fixed_of c.args.rule.now ≡ rule_of c.args.rule.now = lent_rule_lem c.args.rule.now (header_lent c.args.rule.now header) in
    let vertices : let n = source_count c.args.rule.now + target_count c.args.rule.now in n ≤ lowest (bad_vertex c.args.rule.now) n = omega (arith, rw same at c.bad_vertex-unfit.ensures, c.target_count.ensures.0, c.source_count-sources.ensures.0) in
    let laid_out : LentRule c.args.rule.now = whole c.args.rule.now header in
    let read : ReadableRule c.args.rule.now = readable c.args.rule.now vertices laid_out.whole in
    let layers : LayeredRule c.args.rule.now = record { readable = read; layered = layered c.args.rule.now vertices header } in
    layers

pub returns-then-misplaced-sources : goal.returns-then-misplaced-sources
returns-then-misplaced-sources c = let header : rule_header_fits side_limit c.args.rule.now ≡ true = sym c.header_fits.ensures ∙ c.if-not-header_fits.false in
    let same : fixed_of c.args.rule.now ≡ rule_of c.args.rule.now = lent_rule_lem c.args.rule.now (header_lent c.args.rule.now header) in
    let vertices : let n = source_count c.args.rule.now + target_count c.args.rule.now in n ≤ lowest (bad_vertex c.args.rule.now) n = omega (arith, rw same at c.bad_vertex-unfit.ensures, c.target_count.ensures.0, c.source_count-sources.ensures.0) in
    let found = rw same at c.first_misplaced-misplaced.ensures in
    c.refuse_at-then-misplaced-sources.ensures ∙ ap (refused_at bad_rule_order) found
    ∙ refused-order _ header vertices
    (omega (arith, c.if-misplaced-sources.true, found, c.source_count-sources.ensures.0))

pub outputs_fit-requires : goal.outputs_fit-requires
outputs_fit-requires c = let header : rule_header_fits side_limit c.args.rule.now ≡ true = sym c.header_fits.ensures ∙ c.if-not-header_fits.false in
    let same : fixed_of c.args.rule.now ≡ rule_of c.args.rule.now = lent_rule_lem c.args.rule.now (header_lent c.args.rule.now header) in
    let vertices : let n = source_count c.args.rule.now + target_count c.args.rule.now in n ≤ lowest (bad_vertex c.args.rule.now) n = omega (arith, rw same at c.bad_vertex-unfit.ensures, c.target_count.ensures.0, c.source_count-sources.ensures.0) in
    let laid_out : LentRule c.args.rule.now = whole c.args.rule.now header in
    let read : ReadableRule c.args.rule.now = readable c.args.rule.now vertices laid_out.whole in
    let layers : LayeredRule c.args.rule.now = record { readable = read; layered = layered c.args.rule.now vertices header } in
    layers

pub returns-then-not-outputs_fit : goal.returns-then-not-outputs_fit
returns-then-not-outputs_fit c = let header : rule_header_fits side_limit c.args.rule.now ≡ true = sym c.header_fits.ensures ∙ c.if-not-header_fits.false in
    let same : fixed_of c.args.rule.now ≡ rule_of c.args.rule.now = lent_rule_lem c.args.rule.now (header_lent c.args.rule.now header) in
    let vertices : let n = source_count c.args.rule.now + target_count c.args.rule.now in n ≤ lowest (bad_vertex c.args.rule.now) n = omega (arith, rw same at c.bad_vertex-unfit.ensures, c.target_count.ensures.0, c.source_count-sources.ensures.0) in
    let order : let block = c.args.rule.now in source_count block ≤ lowest (out_of_order (rule_of block)) (source_count block) = omega (arith, rw same at c.first_misplaced-misplaced.ensures, c.source_count-sources.ensures.0) in
    c.refuse-then-not-outputs_fit.ensures
    ∙ refused-outputs _ header vertices order
    (sym (rw same at c.outputs_fit.ensures) ∙ c.if-not-outputs_fit.true)

pub bad_node-node-requires : goal.bad_node-node-requires
bad_node-node-requires c = let header : rule_header_fits side_limit c.args.rule.now ≡ true = sym c.header_fits.ensures ∙ c.if-not-header_fits.false in
    let laid_out : LentRule c.args.rule.now = whole c.args.rule.now header in
    laid_out

pub node_count-requires : goal.node_count-requires
node_count-requires c = let header : rule_header_fits side_limit c.args.rule.now ≡ true = sym c.header_fits.ensures ∙ c.if-not-header_fits.false in
    let laid_out : LentRule c.args.rule.now = whole c.args.rule.now header in
    omega (arith, laid_out.whole.size)

pub returns-then-node-node_count : goal.returns-then-node-node_count
returns-then-node-node_count c = let header : rule_header_fits side_limit c.args.rule.now ≡ true = sym c.header_fits.ensures ∙ c.if-not-header_fits.false in
    let same : fixed_of c.args.rule.now ≡ rule_of c.args.rule.now = lent_rule_lem c.args.rule.now (header_lent c.args.rule.now header) in
    let vertices : let n = source_count c.args.rule.now + target_count c.args.rule.now in n ≤ lowest (bad_vertex c.args.rule.now) n = omega (arith, rw same at c.bad_vertex-unfit.ensures, c.target_count.ensures.0, c.source_count-sources.ensures.0) in
    let order : let block = c.args.rule.now in source_count block ≤ lowest (out_of_order (rule_of block)) (source_count block) = omega (arith, rw same at c.first_misplaced-misplaced.ensures, c.source_count-sources.ensures.0) in
    let outputs : outputs_fit (rule_of c.args.rule.now) ≡ true = sym (rw same at c.outputs_fit.ensures) ∙ c.if-not-outputs_fit.false in
    c.refuse_at-then-node-node_count.ensures ∙ ap (refused_at bad_rule_expression) c.bad_node-node.ensures
    ∙ refused-node _ header vertices order outputs
    (omega (arith, c.bad_node-node.ensures, c.node_count.ensures.0))

pub returns-then-user-vertices : goal.returns-then-user-vertices
returns-then-user-vertices c = let header : rule_header_fits side_limit c.args.rule.now ≡ true = sym c.header_fits.ensures ∙ c.if-not-header_fits.false in
    let same : fixed_of c.args.rule.now ≡ rule_of c.args.rule.now = lent_rule_lem c.args.rule.now (header_lent c.args.rule.now header) in
    let vertices : let n = source_count c.args.rule.now + target_count c.args.rule.now in n ≤ lowest (bad_vertex c.args.rule.now) n = omega (arith, rw same at c.bad_vertex-unfit.ensures, c.target_count.ensures.0, c.source_count-sources.ensures.0) in
    let order : let block = c.args.rule.now in source_count block ≤ lowest (out_of_order (rule_of block)) (source_count block) = omega (arith, rw same at c.first_misplaced-misplaced.ensures, c.source_count-sources.ensures.0) in
    let outputs : outputs_fit (rule_of c.args.rule.now) ≡ true = sym (rw same at c.outputs_fit.ensures) ∙ c.if-not-outputs_fit.false in
    let nodes : node_count c.args.rule.now ≤ lowest (bad_node c.args.rule.now) (node_count c.args.rule.now) = omega (arith, c.bad_node-node.ensures, c.node_count.ensures.0) in
    c.refuse_at-then-user-vertices.ensures ∙ ap (refused_at bad_rule_expression) c.bad_use-user.ensures
    ∙ refused_use _ header vertices order outputs nodes
    (omega (arith, c.bad_use-user.ensures, c.target_count.ensures.0, c.source_count-sources.ensures.0))

pub returns : goal.returns
returns c = let header : rule_header_fits side_limit c.args.rule.now ≡ true = sym c.header_fits.ensures ∙ c.if-not-header_fits.false in
    let same : fixed_of c.args.rule.now ≡ rule_of c.args.rule.now = lent_rule_lem c.args.rule.now (header_lent c.args.rule.now header) in
    let vertices : let n = source_count c.args.rule.now + target_count c.args.rule.now in n ≤ lowest (bad_vertex c.args.rule.now) n = omega (arith, rw same at c.bad_vertex-unfit.ensures, c.target_count.ensures.0, c.source_count-sources.ensures.0) in
    let order : let block = c.args.rule.now in source_count block ≤ lowest (out_of_order (rule_of block)) (source_count block) = omega (arith, rw same at c.first_misplaced-misplaced.ensures, c.source_count-sources.ensures.0) in
    let outputs : outputs_fit (rule_of c.args.rule.now) ≡ true = sym (rw same at c.outputs_fit.ensures) ∙ c.if-not-outputs_fit.false in
    let nodes : node_count c.args.rule.now ≤ lowest (bad_node c.args.rule.now) (node_count c.args.rule.now) = omega (arith, c.bad_node-node.ensures, c.node_count.ensures.0) in
    sound _ header vertices order outputs nodes
    (omega (arith, c.bad_use-user.ensures, c.target_count.ensures.0, c.source_count-sources.ensures.0))

pub bad_use-user-requires-clause-readable_rule : goal.bad_use-user-requires-clause-readable_rule
bad_use-user-requires-clause-readable_rule c = let header : rule_header_fits side_limit c.args.rule.now ≡ true = sym c.header_fits.ensures ∙ c.if-not-header_fits.false in
    let same : fixed_of c.args.rule.now ≡ rule_of c.args.rule.now = lent_rule_lem c.args.rule.now (header_lent c.args.rule.now header) in
    let vertices : let n = source_count c.args.rule.now + target_count c.args.rule.now in n ≤ lowest (bad_vertex c.args.rule.now) n = omega (arith, rw same at c.bad_vertex-unfit.ensures, c.target_count.ensures.0, c.source_count-sources.ensures.0) in
    let laid_out : LentRule c.args.rule.now = whole c.args.rule.now header in
    let read : ReadableRule c.args.rule.now = readable c.args.rule.now vertices laid_out.whole in
    let nodes : node_count c.args.rule.now ≤ lowest (bad_node c.args.rule.now) (node_count c.args.rule.now) = omega (arith, c.bad_node-node.ensures, c.node_count.ensures.0) in
    read

pub bad_use-user-requires-clause-lent_rule : goal.bad_use-user-requires-clause-lent_rule
bad_use-user-requires-clause-lent_rule c = let header : rule_header_fits side_limit c.args.rule.now ≡ true = sym c.header_fits.ensures ∙ c.if-not-header_fits.false in
    let same : fixed_of c.args.rule.now ≡ rule_of c.args.rule.now = lent_rule_lem c.args.rule.now (header_lent c.args.rule.now header) in
    let vertices : let n = source_count c.args.rule.now + target_count c.args.rule.now in n ≤ lowest (bad_vertex c.args.rule.now) n = omega (arith, rw same at c.bad_vertex-unfit.ensures, c.target_count.ensures.0, c.source_count-sources.ensures.0) in
    let laid_out : LentRule c.args.rule.now = whole c.args.rule.now header in
    let read : ReadableRule c.args.rule.now = readable c.args.rule.now vertices laid_out.whole in
    let nodes : node_count c.args.rule.now ≤ lowest (bad_node c.args.rule.now) (node_count c.args.rule.now) = omega (arith, c.bad_node-node.ensures, c.node_count.ensures.0) in
    laid_out
