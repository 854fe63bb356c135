use native.Mathlib.Omega.{arith}
use Rattle.rule_fields.proofs.Fixed.{length-target}
use Rattle.rule_names.proofs.Laws.{vertices-begin, vertices_more, all-marked}
use Rattle.rule_fields.specs.Fixed.{split_in, fixed_of}
use Rattle.rule_names.proofs.marked.Goals as goal

pub loop-t-init : goal.loop-t-init
loop-t-init c = vertices-begin (split_in c.args.rule.now) (fixed_of c.args.rule.now)

pub loop-t-preserved : goal.loop-t-preserved
loop-t-preserved c = let block = c.args.rule.now in
    vertices_more (split_in block) (fixed_of block) c.loop-t.t c.loop-t.invariant (omega (arith, length-target block)) c.mark_inputs.ensures

pub returns : goal.returns
returns c = let block = c.args.rule.now in
    all-marked (split_in block) (fixed_of block) c.loop-t.t c.loop-t.invariant (omega (arith, length-target block)) c.mark_outputs.ensures
