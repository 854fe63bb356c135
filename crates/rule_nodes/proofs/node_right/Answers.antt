-- The high byte counts in the made layout, and is zero in a lent block.
use native.Mathlib.Omega.{arith}
use Rattle.rule_fields.specs.Fixed.{right_in}
use Rattle.rule_nodes.proofs.node_right.Goals as goal

pub returns : goal.returns
unfolding right_in
returns c = grind (arith, c.node_operand.ensures, c.requires.narrow_node.right)
