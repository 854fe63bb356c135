use mathlib.Core.Path.{refl}
use native.Mathlib.Omega.{arith}
use Rattle.definitions.specs.Lists.{build}
use Rattle.rule_accesses.proofs.Laws.{tops_more, tops_all}
use Rattle.variadic_nodes.proofs.Laws.{all_fit}
use Rattle.variadic_nodes.proofs.variadic_tops.Goals as goal

pub loop-k-init : goal.loop-k-init
unfolding build
loop-k-init c = refl

pub loop-k-preserved : goal.loop-k-preserved
loop-k-preserved c =
    tops_more c.args.rule.now c.loop-k.k c.loop-k.tops c.loop-k.invariant c.variadic_top.result
    (omega (arith, c.requires.lent_rule.few_nodes, c.node_count-k-end.ensures.0)) c.variadic_top.ensures

pub returns : goal.returns
returns c = tops_all c.args.rule.now c.loop-k.k c.loop-k.tops c.loop-k.invariant (omega (arith, c.node_count-k-end.ensures.0))

pub variadic_top-requires-clause-k_value : goal.variadic_top-requires-clause-k_value
variadic_top-requires-clause-k_value c = all_fit c.args.rule.now c.requires.variadic_faultless c.loop-k.k (omega (arith, c.node_count-k-end.ensures.0))
