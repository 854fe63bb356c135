use mathlib.Core.Path.{refl}
use native.Mathlib.Omega.{arith}
use Rattle.definitions.specs.Lists.{total}
use Rattle.definitions.specs.Rule.{side_capacity}
use Rattle.laws.proofs.Counts.{counted_none, counted_same}
use Rattle.rule_uses.proofs.Laws.{places-all}
use Rattle.rule_uses.proofs.count_places.Goals as goal

pub loop-w-init : goal.loop-w-init
unfolding total
loop-w-init c = counted_none side_capacity (λ v. refl)

pub returns : goal.returns
returns c = counted_same (λ v. places-all c.args.rule.now c.loop-w.w v (omega arith)) c.loop-w.invariant
