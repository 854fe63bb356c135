-- The loop's invariant: below slot k every record stores its true count, and from there on the block is as it came.
use mathlib.Core.Path.{◌≡◌, sym, ap, ap₂, ◌∙◌}
use mathlib.Core.List.{List}
use Prim.Native.Nat.{ℕ, ◌+◌, ◌-◌, ◌<◌, ◌≤◌}
use native.Mathlib.Omega.{arith}
use lib.ListN.{length, get_or}
use Rattle.definitions.specs.Graph.{slot_limit, slot_count, record_at, graph_of, true_count}
use Rattle.graph_fields.specs.Layout.{WholeGraph}
use Rattle.graph_slots.specs.Written.{Halfway}
use Rattle.graph_slots.proofs.Laws.{halfway_write, halfway_all, halfway_slot}
use Rattle.graph_counts.specs.Recounted.{with_count, recounted}
use Rattle.graph_counts.proofs.Laws.{with_length, recounted-length, recounted-slot, recounted-start}
use Rattle.graph_counts.proofs.store_counts.Given as goal

abbrev pub invariant-loop-k : goal.invariant-loop-k
invariant-loop-k l = Halfway l.k l.graph (recounted l.initial.graph) l.initial.graph
