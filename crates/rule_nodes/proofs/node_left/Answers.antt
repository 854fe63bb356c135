-- The high byte counts in the made layout, and is zero in a lent block.
use native.Mathlib.Omega.{arith}
use Rattle.rule_fields.specs.Fixed.{left_in}
use Rattle.rule_nodes.proofs.node_left.Goals as goal

pub returns : goal.returns
unfolding left_in
returns c = grind (arith, c.node_operand.ensures, c.requires.narrow_node.left)
