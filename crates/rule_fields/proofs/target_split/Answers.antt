-- By the layout.
use mathlib.Core.Path.{sym, ◌∙◌}
use native.Mathlib.Omega.{arith}
use Rattle.rule_fields.specs.Fixed.{split_in}
use Rattle.rule_fields.proofs.target_split.Goals as goal

pub returns-then-is_expanded : goal.returns-then-is_expanded
unfolding split_in
returns-then-is_expanded c = (simp (sym c.is_expanded.ensures ∙ c.if-is_expanded.true), omega arith)

pub returns-else-is_expanded : goal.returns-else-is_expanded
unfolding split_in
returns-else-is_expanded c = (simp (sym c.is_expanded.ensures ∙ c.if-is_expanded.false), omega arith)
