-- Each turn stores what `place` says of one more place.
use native.Mathlib.Omega.{arith}
use lib.Seq.{take_all}
use Rattle.padding.proofs.Turns.{padded_none, padded_more}
use Rattle.padding.proofs.padded.Goals as goal

pub loop-i-init : goal.loop-i-init
loop-i-init g c = λ xs size says. padded_none c.args.rest g.row.N

pub loop-i-preserved : goal.loop-i-preserved
loop-i-preserved g c = λ xs size says. padded_more c.args.rest g.row.N xs c.loop-i.i (omega arith) (omega arith)
    (says c.loop-i.i c.loop-i-test.true c.place.result c.place.ensures) (c.loop-i.invariant xs size says)

pub returns : goal.returns
returns g c = λ xs size says. rw (take_all c.loop-i.i xs (omega arith)) at (c.loop-i.invariant xs size says)
