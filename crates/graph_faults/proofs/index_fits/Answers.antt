-- A kind other than Proj has no index; an index is at least 1 where it is positive and not zero.
use native.Mathlib.Omega.{arith}
use Rattle.std.proofs.lemmas.Int.{ints, to_z-of_z}
use Rattle.definitions.specs.Graph.{at_least_one}
use Rattle.graph_faults.proofs.index_fits.Goals as goal

pub returns-else-kind-ne-KIND_PROJ : goal.returns-else-kind-ne-KIND_PROJ
unfolding at_least_one
returns-else-kind-ne-KIND_PROJ c = rw (← c.i32_at.ensures) (grind (arith, ints, to_z-of_z))
