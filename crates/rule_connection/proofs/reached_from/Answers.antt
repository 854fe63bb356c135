use mathlib.Core.Path.{refl}
use native.Mathlib.Omega.{arith}
use Rattle.definitions.specs.Lists.{build}
use Rattle.rule_fields.specs.Fixed.{fixed_of}
use Rattle.rule_fields.proofs.Fixed.{length-source}
use Rattle.rule_connection.proofs.Laws.{reached_more, reached-all}
use Rattle.rule_connection.proofs.reached_from.Goals as goal

pub loop-w-init : goal.loop-w-init
unfolding build
loop-w-init c = refl

pub loop-w-preserved : goal.loop-w-preserved
loop-w-preserved c = reached_more (fixed_of c.args.rule.now) c.args.v c.loop-w.w c.loop-w.found c.loop-w.invariant c.reaches_next.result
    (omega (arith, c.requires.readable.whole.source)) c.reaches_next.ensures

pub returns : goal.returns
returns c = (λ w. reached-all (fixed_of c.args.rule.now) c.args.v c.loop-w.w c.loop-w.found c.loop-w.invariant
    (omega (arith, length-source c.args.rule.now)) w)
