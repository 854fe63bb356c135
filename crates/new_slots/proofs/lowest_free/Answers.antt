-- A free slot is listed where there is a place for it, and counted; another one is neither.
use native.Mathlib.Omega.{arith}
use Rattle.new_slots.proofs.Steps.{lowest_none, lowest-listed, lowest-counted, lowest_pass}
use Rattle.new_slots.proofs.lowest_free.Goals as goal

pub loop-k-init : goal.loop-k-init
loop-k-init c = record { bounded = omega arith; listed = lowest_none c.args.free.now }

pub loop-k-preserved : goal.loop-k-preserved
loop-k-preserved c =
    let marks = c.args.free.now in
    let k = c.loop-k.k in
    elim c.if-free-k.branch [
      | goal.then-free-k w ↦ record {
        bounded = omega arith;
        listed = elim w.if-count-lt-SIDE_CAPACITY.branch [
          | goal.then-count-lt-SIDE_CAPACITY v ↦ rw (w.count-is, w.slots-is, v.slots-is) (lowest-listed marks k c.loop-k.invariant.listed w.if-free-k.true (omega arith))
          | goal.else-count-lt-SIDE_CAPACITY v ↦ rw (w.count-is, w.slots-is, v.slots-is) (lowest-counted marks k c.loop-k.invariant.listed w.if-free-k.true (omega arith))
        ];
      }
      | goal.else-free-k w ↦ record {
        bounded = omega arith;
        listed = rw (w.count-is, w.slots-is) (lowest_pass marks k c.loop-k.invariant.listed w.if-free-k.false);
      }
    ]
