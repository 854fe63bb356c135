use borrow.Author.Tests.{lt-ltb}
use Prim.Native.Nat.{◌<◌}
use native.Mathlib.Omega.{arith}
use Rattle.listing.specs.Typing.{going_on}
use Rattle.listing_numbers.proofs.digits_behind.Goals as goal

pub returns-then-value-eq0-clause-value_value : goal.returns-then-value-eq0-clause-value_value
unfolding going_on
returns-then-value-eq0-clause-value_value c = rw (c.if-value-eq0.true)

pub returns-else-value-eq0-clause-value_value : goal.returns-else-value-eq0-clause-value_value
returns-else-value-eq0-clause-value_value c = let some-digits : 0 < c.args.value = omega arith in rw (lt-ltb 0 c.args.value some-digits) c.digits_so.ensures.value_value
