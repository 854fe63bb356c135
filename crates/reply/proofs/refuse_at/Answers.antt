use mathlib.Core.Path.{ap}
use Rattle.definitions.specs.Reply.{refusal_at, refused_at}
use Rattle.reply.proofs.refuse_at.Goals as goal

pub returns : goal.returns
unfolding refusal_at
returns g c = ap (λ number. refused_at number c.args.index) c.to_number.ensures
