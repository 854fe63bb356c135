use Rattle.variadic_layout.specs.Parts.{target_part}
use Rattle.variadic_layout.proofs.target_part.Goals as goal

pub returns : goal.returns
unfolding target_part
returns c = rw c.target_side.ensures
