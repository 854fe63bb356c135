-- How large the counts of a graph can be.
-- Assumes nothing.
use mathlib.Core.Path.{◌≡◌, refl, sym, ap, ◌∙◌}
use mathlib.Core.List.{List}
use Prim.Native.Nat.{ℕ, ◌+◌, ◌*◌, ◌≤◌}
use native.Mathlib.Omega.{arith}
use Rattle.definitions.specs.Graph.{output_limit, slot_count, graph_of, inputs_of, reads_of, true_count}
use Rattle.laws.proofs.Graph.{length-slots, length-outputs}
use Rattle.laws.proofs.Sums.{count-length}
use Rattle.laws.proofs.Counts.{reads-most}
use Rattle.graph_fields.specs.Layout.{ReadableGraph}
use Rattle.graph_uses.specs.Countable.{reads_below}

-- the slots below the last one are all slots
pub reads_all : (block : List ℕ) (k v : ℕ) → k ≡ slot_count block → reads_below (graph_of block) k v ≡ reads_of (graph_of block) v
unfolding reads_of
reads_all block k v e = ap (λ (n : ℕ). reads_below (graph_of block) n v) (e ∙ sym (length-slots block))

module _ {block : List ℕ} (readable : ReadableGraph block) where
  pub reads_below_most : (k v : ℕ) → k ≤ slot_count block → reads_below (graph_of block) k v ≤ 6 * k
  reads_below_most k v h = reads-most (inputs_of (graph_of block)) k v (λ w l. readable.inputs w (omega arith))

  pub uses_most : (v : ℕ) → true_count (graph_of block) v ≤ 6 * slot_count block + output_limit
  unfolding true_count
  uses_most v = omega (
    arith,
    reads_all block (slot_count block) v refl,
    reads_below_most (slot_count block) v (omega arith),
    count-length v (graph_of block).outputs,
    length-outputs block,
    readable.whole.outputs,
  )
