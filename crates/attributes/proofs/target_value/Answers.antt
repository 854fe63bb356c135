-- The attribute names a node, and what is worked out is what that node gives, which is in range.
use Rattle.attributes.proofs.Laws.{target_node}
use Rattle.match_values.proofs.Laws.{node-bounded}
use Rattle.attributes.proofs.target_value.Goals as goal

pub node_value-requires-clause-k_bound : goal.node_value-requires-clause-k_bound
node_value-requires-clause-k_bound c = target_node c.requires.evaluation c.requires.target_attribute c.target_attribute-k.ensures.value

pub returns-clause-bounded_result : goal.returns-clause-bounded_result
returns-clause-bounded_result c =
    let inside = target_node c.requires.evaluation c.requires.target_attribute c.target_attribute-k.ensures.value in
    rw c.node_value.ensures (node-bounded c.args.graph.now c.args.rule.now c.args.images.now c.target_attribute-k.result inside (c.requires.evaluation.evaluable.nodes c.target_attribute-k.result inside))
