-- Each of the two is done or a refusal, and the definition goes by the same cases.
use mathlib.Core.Path.{sym, ◌∙◌}
use Rattle.definitions.specs.Reply.{first_refusal}
use Rattle.laws.proofs.Reply.{passed_on, first_done, first-refused}
use Rattle.reply.proofs.first_refusal.Goals as goal

pub returns-in_err-one : goal.returns-in_err-one
returns-in_err-one c = passed_on c.from_residual.ensures.1 ∙ sym (first-refused _ _ c.in_err-one.was)

pub returns-in_err-other : goal.returns-in_err-other
returns-in_err-other c = passed_on c.from_residual-in_err-other.ensures.1 ∙ sym (first_done _ c.in_ok-one.was ∙ first-refused _ _ c.in_err-other.was)

pub returns : goal.returns
unfolding first_refusal
returns c = rw (c.in_ok-one.was, c.in_ok-other.was, first_refusal)
