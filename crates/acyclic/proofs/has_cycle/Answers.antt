use mathlib.Core.Path.{◌≡◌, refl, sym, ◌∙◌}
use Prim.Native.Nat.{ℕ, ◌-◌, ◌<◌}
use native.Mathlib.Nat.{not-suc-le-zero}
use native.Mathlib.Omega.{arith}
use borrow.Author.Count.{below_more}
use lib.ListN.{get_or}
use Rattle.definitions.specs.Graph.{graph_of, inputs_of}
use Rattle.acyclic.specs.Search.{Ready}
use Rattle.acyclic.proofs.Laws.{quiet_zeros, cycle_found, none_found, sorted_acyclic}
use Rattle.acyclic.proofs.has_cycle.Goals as goal

pub returns-then-is_sorted : goal.returns-then-is_sorted
returns-then-is_sorted c = sorted_acyclic c.requires.closed (sym c.is_sorted.ensures ∙ c.if-is_sorted.true)

pub loop-root-init : goal.loop-root-init
loop-root-init c = (
  record {
    readable = c.requires.readable_graph;
    closed = c.requires.closed;
    sized = record { progress = refl; parent = refl };
    quiet = quiet_zeros (inputs_of (graph_of c.args.graph.now)) 512;
  },
  λ v l. absurd (not-suc-le-zero l),
)

pub returns-then-finds_cycle : goal.returns-then-finds_cycle
returns-then-finds_cycle c = cycle_found c.loop-root.invariant.0.closed (c.finds_cycle.ensures.searched.cycle c.if-finds_cycle.true)

pub returns : goal.returns
returns c = none_found c.loop-root.invariant.0.closed c.loop-root.progress c.loop-root.invariant.0.quiet
    (λ v l. c.loop-root.invariant.1 v (omega (arith, c.loop-root-test.false, c.slot_count-count.ensures.0)))
