use mathlib.Core.Path.{refl}
use native.Mathlib.Omega.{arith}
use Rattle.definitions.specs.Lists.{build}
use Rattle.rule_accesses.proofs.Laws.{tops_more, tops_all, all_fit}
use Rattle.rule_accesses.proofs.access_tops.Goals as goal

pub loop-k-init : goal.loop-k-init
unfolding build
loop-k-init c = refl

pub node_top-requires-clause-k_value : goal.node_top-requires-clause-k_value
node_top-requires-clause-k_value c = all_fit c.args.rule.now c.requires.nodes_faultless c.loop-k.k (omega arith)

pub loop-k-preserved : goal.loop-k-preserved
loop-k-preserved c = tops_more c.args.rule.now c.loop-k.k c.loop-k.tops c.loop-k.invariant c.node_top.result
    (omega (arith, c.requires.lent_rule.few_nodes)) c.node_top.ensures

pub returns : goal.returns
returns c = tops_all c.args.rule.now c.loop-k.k c.loop-k.tops c.loop-k.invariant (omega arith)
