-- The block between the two passes: the slots that go are Empty, and what stays has its old count.
-- Assumes nothing.
use Rattle.std.specs.Prelude.{cond, List, ℕ}
use Rattle.definitions.specs.Graph.{graph_version, Graph, true_count, block_as}
use Rattle.definitions.specs.Sweep.{reaching_outputs, is_unneeded, sweep}

unfoldable pub old_counts : Graph → ℕ → ℕ
old_counts g v = cond (is_unneeded g (reaching_outputs g) v) 0 (true_count g v)

abbrev pub emptied : Graph → List ℕ
emptied g = block_as graph_version (old_counts g) (sweep g)
