use native.Mathlib.Omega.{arith}
use Rattle.definitions.specs.Rule.{target_of, made}
use Rattle.rule_fields.specs.Fixed.{split_in, fixed_of}
use Rattle.rule_names.proofs.Laws.{marking_more, marking_ends}
use Rattle.rule_names.proofs.mark_inputs.Goals as goal

pub loop-i-preserved : goal.loop-i-preserved
loop-i-preserved c = let a = c.args in
    marking_more (split_in a.rule.now) (target_of (fixed_of a.rule.now) a.t).inputs c.loop-i.i c.loop-i.invariant c.target_input.result (made 255)
    (omega arith) (omega arith) c.target_input.ensures.0

pub returns : goal.returns
returns c = let a = c.args in
    marking_ends (split_in a.rule.now) (target_of (fixed_of a.rule.now) a.t).inputs c.loop-i.i c.loop-i.invariant (omega arith)
