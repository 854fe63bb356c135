-- A slot that passes the look is put behind the others, and another is passed.
use Prim.Native.Nat.{◌<◌}
use native.Mathlib.Omega.{arith}
use borrow.Author.Rules.{rules}
use Rattle.definitions.specs.Graph.{slot_limit}
use Rattle.match_candidates.proofs.Steps.{listed_skip, listed_put}
use Rattle.match_candidates.proofs.all_candidates.Goals as goal
use Rattle.match_candidates.proofs.all_candidates.Goals.{then-passes_look, else-passes_look}

pub loop-v-preserved : goal.loop-v-preserved
loop-v-preserved c =
    let room : c.loop-v.count < slot_limit =
    omega (arith, c.loop-v.invariant.few, c.loop-v-test.true, c.slot_count-v-end.ensures.0, c.requires.whole.slots) in
    elim c.if-passes_look.branch [
      | then-passes_look w ↦ rw (w.slots-is, w.count-is) (listed_put c.loop-v.invariant room (search rules))
      | else-passes_look w ↦ rw (w.slots-is, w.count-is) (listed_skip c.loop-v.invariant (search rules))
    ]
