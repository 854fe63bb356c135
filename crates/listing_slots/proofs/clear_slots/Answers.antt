use mathlib.Core.Path.{sym, ap, ◌∙◌}
use Prim.Native.Nat.{◌+◌, ◌≤◌}
use native.Mathlib.Omega.{arith}
use lib.ListN.{length}
use Rattle.definitions.specs.Graph.{record_at}
use Rattle.graph_slots.specs.Written.{empty_bytes}
use Rattle.graph_slots.proofs.Laws.{empty_length, written-length}
use Rattle.listing_slots.specs.Rows.{row}
use Rattle.listing_slots.proofs.Laws.{empty_row, holds_more}
use Rattle.listing_slots.proofs.clear_slots.Goals as goal

pub loop-k-preserved : goal.loop-k-preserved
loop-k-preserved c = let inside : record_at (c.loop-k.k + 1) ≤ length c.loop-k.table = omega (arith, c.loop-k.invariant.size, c.requires.to_in_bounds) in
    record {
      size = written-length c.clear_slot.ensures inside empty_length ∙ c.loop-k.invariant.size;
      holds = λ slots empty begun.
          holds_more slots c.loop-k.k empty_bytes c.loop-k.table c.clear_slot.new.graph c.clear_slot.ensures
          (empty_row ∙ ap row (sym (empty c.loop-k.k (omega arith) (omega arith)))) (omega arith)
          (c.loop-k.invariant.holds slots (λ i low high. empty i low (omega arith)) begun);
    }
