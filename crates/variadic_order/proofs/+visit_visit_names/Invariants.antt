-- The measures: a copy names copies of lower vertices, and has at most 36 fields, so 64 to a vertex leave room for its fields and itself.
use Prim.Native.Nat.{◌+◌, ◌-◌, ◌*◌}
use Rattle.definitions.specs.Variadic.{original}
use Rattle.variadic_order.proofs.+visit_visit_names.Given as goal

abbrev pub decreases-visit : goal.decreases-visit
decreases-visit l = original l.c * 64 + 63

abbrev pub decreases-visit_names : goal.decreases-visit_names
decreases-visit_names l = original l.c * 64 + (36 - l.i)
