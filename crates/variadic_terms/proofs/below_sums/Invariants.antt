-- The loop's invariant: from the node that is reached the way goes down as from the first one. Operands are earlier, so it ends.
use mathlib.Core.Path.{◌≡◌}
use Prim.Native.Nat.{◌≤◌}
use Rattle.variadic_terms.specs.Terms.{bottom}
use Rattle.variadic_terms.proofs.below_sums.Given as goal

abbrev pub invariant-loop-x : goal.invariant-loop-x
invariant-loop-x l = (l.x ≤ l.k) × (bottom l.rule l.x ≡ bottom l.rule l.k)

abbrev pub decreases-loop-x : goal.decreases-loop-x
decreases-loop-x l = l.x
