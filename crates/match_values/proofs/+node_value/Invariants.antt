-- The measure is the node's number: operands are earlier nodes.
use Rattle.match_values.proofs.+node_value.Given as goal

abbrev pub decreases-node_value : goal.decreases-node_value
decreases-node_value l = l.k
