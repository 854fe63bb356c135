use Rattle.variadic_layout.specs.Parts.{source_part}
use Rattle.variadic_layout.proofs.source_part.Goals as goal

pub returns : goal.returns
unfolding source_part
returns c = rw c.source_side.ensures
