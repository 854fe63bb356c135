-- Value 1 is yes, and 0 is no.
use mathlib.Core.Path.{◌≡◌, refl, ap, ◌∙◌}
use mathlib.Core.Bool.{Bool, true, false}
use Rattle.std.specs.Prelude.{Ok}
use Rattle.std.specs.Int.{from_bool}
use Rattle.definitions.specs.Reply.{Reply, answered}
use Rattle.reply.proofs.answer_with.Goals as goal

by_answer : (yes : Bool) → ◌≡◌ {A = Reply} (Ok (from_bool yes)) (answered yes)
unfolding answered
by_answer true = refl
by_answer false = refl

pub returns : goal.returns
returns c = ap Ok c.from.ensures ∙ by_answer c.args.yes
