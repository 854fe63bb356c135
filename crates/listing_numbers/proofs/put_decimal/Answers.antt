use mathlib.Core.Path.{◌≡◌, refl}
use Prim.Native.Nat.{suc, ◌+◌, ◌-◌, ◌%◌}
use native.Mathlib.Omega.{arith}
use lib.ListN.{length-set}
use Rattle.listing_numbers.proofs.Laws.{WrittenFrom, write_more}
use Rattle.listing_numbers.proofs.put_decimal.Goals as goal

pub loop-i-preserved : goal.loop-i-preserved
loop-i-preserved c = let e : suc (c.loop-i.i - 1) ≡ c.loop-i.i = omega arith in
    let h : WrittenFrom c.args.n c.loop-i.rest (suc (c.loop-i.i - 1)) c.loop-i.part = rw e c.loop-i.invariant in
    write_more c.args.n c.loop-i.rest (c.loop-i.i - 1) c.loop-i.part (48 + c.loop-i.rest % 10) refl (simp length-set) h
