use native.Mathlib.Omega.{arith}
use Rattle.definitions.specs.Rule.{made}
use Rattle.rule_fields.specs.Fixed.{split_in, fixed_of}
use Rattle.rule_fields.proofs.Fixed.{length-target-outputs}
use Rattle.rule_names.proofs.Laws.{marking_more, marking_ends}
use Rattle.rule_names.proofs.mark_outputs.Goals as goal

pub loop-i-preserved : goal.loop-i-preserved
loop-i-preserved c = let block = c.args.rule.now in
    marking_more (split_in block) (fixed_of block).target_outputs c.loop-i.i c.loop-i.invariant c.target_output.result (made 255) (omega arith)
    (omega (arith, length-target-outputs block)) c.target_output.ensures.0

pub returns : goal.returns
returns c = let block = c.args.rule.now in
    marking_ends (split_in block) (fixed_of block).target_outputs c.loop-i.i c.loop-i.invariant (omega (arith, length-target-outputs block))
