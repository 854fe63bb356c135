-- After k turns the header and the first k records are the table's. At the end those are all.
use mathlib.Core.Path.{sym, ◌∙◌}
use Prim.Native.Nat.{◌-◌, ◌<◌, ◌≤◌}
use native.Mathlib.Omega.{arith}
use borrow.Author.Rules.{rules}
use Rattle.definitions.specs.Graph.{slot_count, record_at}
use Rattle.commit.specs.Tables.{Committed}
use Rattle.commit.proofs.Laws.{written-header, committed_all}
use Rattle.commit.proofs.commit.Given as goal

abbrev pub invariant-loop-k : goal.invariant-loop-k
invariant-loop-k l = Committed (record_at l.k) l.graph l.table
