-- The loop's invariant: no slot is being searched, and the slots passed are finished.
use mathlib.Core.Path.{◌≡◌, refl, sym, ◌∙◌}
use Prim.Native.Nat.{ℕ, ◌-◌, ◌<◌}
use native.Mathlib.Nat.{not-suc-le-zero}
use native.Mathlib.Omega.{arith}
use borrow.Author.Count.{below_more}
use lib.ListN.{get_or}
use Rattle.definitions.specs.Graph.{graph_of, inputs_of}
use Rattle.acyclic.specs.Search.{Ready}
use Rattle.acyclic.proofs.Laws.{quiet_zeros, cycle_found, none_found, sorted_acyclic}
use Rattle.acyclic.proofs.has_cycle.Given as goal

abbrev pub invariant-loop-root : goal.invariant-loop-root
invariant-loop-root l = Ready l.graph l.progress l.parent × ((v : ℕ) → v < l.root → get_or l.progress v 0 ≡ 8)
