-- The loop's invariant: the first k places hold what the definition of `top_from` builds, and the others 0.
use mathlib.Core.Path.{◌≡◌}
use mathlib.Core.List.{◌++◌}
use Prim.Native.Nat.{◌-◌}
use lib.ListN.{replicate}
use Rattle.definitions.specs.Lists.{build}
use Rattle.definitions.specs.Rule.{node_limit}
use Rattle.rule_accesses.specs.Access.{top_from}
use Rattle.rule_accesses.proofs.access_tops.Given as goal

abbrev pub invariant-loop-k : goal.invariant-loop-k
invariant-loop-k l = l.tops ≡ build (top_from l.rule) l.k ++ replicate (node_limit - l.k) 0
