-- In the made layout byte 14 has the high byte.
use mathlib.Core.Path.{sym, ◌∙◌}
use native.Mathlib.Omega.{arith}
use Rattle.rule_fields.specs.Fixed.{nodes_in}
use Rattle.rule_fields.proofs.fixed_node_count.Goals as goal

pub returns-then-is_expanded : goal.returns-then-is_expanded
unfolding nodes_in
returns-then-is_expanded c = (simp (sym c.is_expanded.ensures ∙ c.if-is_expanded.true, ← c.node_count-low.ensures.0, ← c.byte_at.ensures.0), omega arith)

pub returns-else-is_expanded : goal.returns-else-is_expanded
unfolding nodes_in
returns-else-is_expanded c = (simp (sym c.is_expanded.ensures ∙ c.if-is_expanded.false) c.node_count-low.ensures.0, omega arith)
