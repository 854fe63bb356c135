-- The new table is made in the first part of a local block, as long as the graph's, and committed from there.
use mathlib.Core.Path.{◌≡◌, sym, ap, ◌∙◌, subst}
use mathlib.Core.List.{List, ◌++◌}
use Prim.Native.Nat.{ℕ, ◌-◌, ◌≤◌}
use native.Mathlib.Omega.{arith}
use lib.ListN.{length, take}
use lib.Seq.{take-append_seam}
use Rattle.definitions.specs.Graph.{slot_limit, graph_version, record_at, true_count, SoundGraph}
use Rattle.graph_fields.specs.Layout.{WholeGraph}
use Rattle.graph_check.proofs.Readable.{graph_readable}
use Rattle.encoding.proofs.Blocks.{block_readable, holdable}
use Rattle.rewriting.proofs.replace.Goals as goal

-- a sound block is no longer than the longest
short : (graph : List ℕ) → SoundGraph graph → length graph ≤ record_at slot_limit
short graph sound = let whole = (graph_readable graph sound).whole in omega (arith, whole.size, whole.slots)

front : (n : ℕ) (xs ys : List ℕ) → length xs ≡ n → take n (xs ++ ys) ≡ xs
front n xs ys e = ap (λ k. take k (xs ++ ys)) (sym e) ∙ take-append_seam xs ys

pub slice_bounds-table-end : goal.slice_bounds-table-end
slice_bounds-table-end c = omega (arith, short c.args.graph.now c.requires.sound_graph, c.blank_table-table.ensures)

pub commit-requires-clause-whole_graph : goal.commit-requires-clause-whole_graph
commit-requires-clause-whole_graph c = let filled : length c.plan.new.table ≡ length c.args.graph.now - 0 = c.table-2-1.given ∙ c.table-1.given.2 in
    let made = c.plan.ensures.done _ c.in_ok-plan.was in
    let same = front _ c.plan.new.table _ filled ∙ made.3 in subst WholeGraph (sym same) (block_readable made.0 (holdable made.0 made.1) graph_version (true_count made.0)).whole
