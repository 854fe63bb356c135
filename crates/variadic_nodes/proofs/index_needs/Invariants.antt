-- The loop's invariant: the first k places hold what the definition of `needs_from` builds, and the others false.
use mathlib.Core.Path.{◌≡◌}
use mathlib.Core.Bool.{false}
use mathlib.Core.List.{◌++◌}
use Prim.Native.Nat.{◌-◌}
use lib.ListN.{replicate}
use Rattle.definitions.specs.Lists.{build}
use Rattle.definitions.specs.Rule.{node_limit}
use Rattle.variadic_nodes.specs.Needs.{needs_from}
use Rattle.variadic_nodes.proofs.index_needs.Given as goal

abbrev pub invariant-loop-k : goal.invariant-loop-k
invariant-loop-k l = l.needs ≡ build (needs_from l.rule) l.k ++ replicate (node_limit - l.k) false
