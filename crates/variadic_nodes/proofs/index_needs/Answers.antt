use mathlib.Core.Path.{refl}
use native.Mathlib.Omega.{arith}
use Rattle.definitions.specs.Lists.{build}
use Rattle.variadic_nodes.proofs.Laws.{all_fit, needs_more, needs_all}
use Rattle.variadic_nodes.proofs.index_needs.Goals as goal

pub loop-k-init : goal.loop-k-init
unfolding build
loop-k-init c = refl

pub loop-k-preserved : goal.loop-k-preserved
loop-k-preserved c =
    needs_more c.args.rule.now c.loop-k.k c.loop-k.needs c.loop-k.invariant c.needs_index.result
    (omega (arith, c.requires.lent_rule.few_nodes, c.node_count-k-end.ensures.0)) c.needs_index.ensures

pub returns : goal.returns
returns c = needs_all c.args.rule.now c.loop-k.k c.loop-k.needs c.loop-k.invariant (omega (arith, c.node_count-k-end.ensures.0))

pub needs_index-requires-clause-k_value : goal.needs_index-requires-clause-k_value
needs_index-requires-clause-k_value c = all_fit c.args.rule.now c.requires.variadic_faultless c.loop-k.k (omega (arith, c.node_count-k-end.ensures.0))
