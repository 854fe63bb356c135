-- Operands are earlier nodes, and the memo holds true results after each of them.
use mathlib.Core.Path.{◌≡◌}
use Prim.Native.Nat.{◌<◌}
use native.Mathlib.Omega.{arith}
use Rattle.definitions.specs.Graph.{graph_of}
use Rattle.definitions.specs.Rule.{node_form}
use Rattle.definitions.specs.Match.{read_attribute}
use Rattle.rule_nodes.specs.Nodes.{GoodNode}
use Rattle.numbers.specs.Value.{value_of}
use Rattle.match_leaves.specs.Results.{node_result}
use Rattle.match_values.proofs.Laws.{combined_gives, memo_more}
use Rattle.match_values.proofs.+node_value.Goals as goal

pub returns-clause-result_value : goal.returns-clause-result_value
returns-clause-result_value t c =
    let operation : 2 < node_form c.args.rule.now c.args.k = omega (arith, c.node_form-form.ensures.0, c.if-form-lt-FORM_ADD.false) in
    let good : GoodNode c.args.rule.now c.args.k = c.requires.node_evaluation.evaluable.nodes c.args.k c.requires.k_bound in
    combined_gives c.args.rule.now c.args.k c.requires.k_bound (read_attribute (graph_of c.args.graph.now) c.args.images.now)
    c.node_form-form.result c.node_left-left.result c.node_right-right.result (value_of c.node_value-first.result)
    (value_of c.node_value-second.result) (value_of c.combine-value.result) good operation c.node_form-form.ensures.0
    c.node_left-left.ensures c.node_right-right.ensures c.node_value-first.ensures.result_value
    c.node_value-second.ensures.result_value c.combine-value.ensures

pub returns-clause-memo_2 : goal.returns-clause-memo_2
returns-clause-memo_2 t c =
    let operation : 2 < node_form c.args.rule.now c.args.k = omega (arith, c.node_form-form.ensures.0, c.if-form-lt-FORM_ADD.false) in
    let good : GoodNode c.args.rule.now c.args.k = c.requires.node_evaluation.evaluable.nodes c.args.k c.requires.k_bound in
    let combined : value_of c.combine-value.result ≡ node_result c.args.graph.now c.args.rule.now c.args.images.now c.args.k =
    combined_gives c.args.rule.now c.args.k c.requires.k_bound (read_attribute (graph_of c.args.graph.now) c.args.images.now)
    c.node_form-form.result c.node_left-left.result c.node_right-right.result (value_of c.node_value-first.result)
    (value_of c.node_value-second.result) (value_of c.combine-value.result) good operation c.node_form-form.ensures.0
    c.node_left-left.ensures c.node_right-right.ensures c.node_value-first.ensures.result_value
    c.node_value-second.ensures.result_value c.combine-value.ensures in
    memo_more c.args.graph.now c.args.rule.now c.args.images.now c.args.k c.combine-value.result c.node_value-second.ensures.memo_2
    c.requires.k_bound combined
