-- The first refusal is given, and the last check's reply where there is none before it.
use mathlib.Core.Path.{sym, ◌∙◌}
use Rattle.definitions.specs.Operations.{blocks_reply}
use Rattle.laws.proofs.Reply.{passed_on, first_done, first-refused, first_last}
use Rattle.laws.proofs.Operations.{rule_valueless}
use Rattle.blocks.proofs.check_blocks.Goals as goal

pub returns-in_err-check_map : goal.returns-in_err-check_map
unfolding blocks_reply
returns-in_err-check_map c = passed_on c.from_residual.ensures.1 ∙ sym (first-refused _ _ (sym c.in_err-check_map.ensures))

pub returns-in_err-check : goal.returns-in_err-check
unfolding blocks_reply
returns-in_err-check c = passed_on c.from_residual-in_err-check.ensures.1 ∙ sym (first_done _ (sym c.in_ok-check_map.ensures) ∙ first-refused _ _ (sym c.in_err-check.ensures))

pub returns : goal.returns
unfolding blocks_reply
returns c = c.check-2.ensures ∙ sym (first_done _ (sym c.in_ok-check_map.ensures)
    ∙ first_done _ (sym c.in_ok-check.ensures) ∙ first_last _ (rule_valueless _))
