use mathlib.Core.Path.{◌≡◌, ap, sym, ◌∙◌}
use Prim.Native.Nat.{ℕ, ◌+◌, ◌-◌, ◌/◌}
use native.Mathlib.Omega.{arith}
use Rattle.listing.specs.Typing as typing
use Rattle.listing_numbers.proofs.Laws.{reaches_here, reaches_less, reaches_none}
use Rattle.listing_numbers.proofs.reaches.Goals as goal

pub returns-then-is_within : goal.returns-then-is_within
returns-then-is_within c = sym (c.loop-place.invariant ∙ reaches_here (10 - c.loop-place.place) c.args.d c.loop-place.l c.loop-place.h (omega arith) (sym c.is_within.ensures ∙ c.if-is_within.true))

pub loop-place-preserved : goal.loop-place-preserved
loop-place-preserved c = let e : 10 - c.loop-place.place - 1 ≡ 10 - (c.loop-place.place + 1) = omega arith in c.loop-place.invariant ∙ reaches_less (10 - c.loop-place.place) c.args.d c.loop-place.l c.loop-place.h (omega arith) (sym c.is_within.ensures ∙ c.if-is_within.false) ∙ ap (λ (n : ℕ). typing.reaches n c.args.d (c.loop-place.l / 10) (c.loop-place.h / 10)) e

pub returns : goal.returns
returns c = sym (c.loop-place.invariant ∙ reaches_none (10 - c.loop-place.place) c.args.d c.loop-place.l c.loop-place.h (omega arith))
