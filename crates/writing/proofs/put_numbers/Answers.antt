use mathlib.Core.Path.{◌≡◌, ap, ◌∙◌}
use Prim.Native.Nat.{◌*◌}
use native.Mathlib.Omega.{arith}
use lib.ListN.{length, take}
use Rattle.definitions.specs.Lists.{concat_map}
use Rattle.writing.proofs.Written.{piece_put, piece_more}
use Rattle.writing.proofs.put_numbers.Goals as goal

pub loop-i-init : goal.loop-i-init
unfolding concat_map
loop-i-init g c =
    let none : g.row.W * 0 ≡ 0 = omega arith in
    (c.requires, ap (λ n. take n c.args.part.now) none)

pub loop-i-preserved : goal.loop-i-preserved
loop-i-preserved g c =
    let l = c.loop-i in
    let x = c.index-numbers-i.result in
    let bytes = c.copy_from_slice.new.self in
    let same : bytes ≡ g.T.Stored.bytes x = c.copy_from_slice.ensures.after ∙ c.to_bytes-bytes.ensures in
    let size : length bytes ≡ g.row.W = ap length c.copy_from_slice.ensures.after ∙ omega arith in (
      piece_put g.T.Stored.bytes c.args.numbers.now x l.part bytes g.row.W l.i c.loop-i-test.true l.invariant.0 size,
      piece_more g.T.Stored.bytes c.args.numbers.now x l.part bytes g.row.W l.i c.loop-i-test.true l.invariant.0 size
          (same ∙ ap g.T.Stored.bytes c.index-numbers-i.is) l.invariant.1,
    )
