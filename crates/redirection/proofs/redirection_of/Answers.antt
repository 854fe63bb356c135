-- A rule has one output or two, so the first and the last are all of them.
use native.Mathlib.Omega.{arith}
use borrow.Author.Rules.{rules}
use Rattle.redirection.proofs.Laws.{moves-all}
use Rattle.redirection.proofs.redirection_of.Goals as goal

pub returns : goal.returns
returns c = moves-all c.args.rule.now c.args.images.now c.args.places.now c.output_count-outputs.result
    c.output_count-outputs.ensures.0 c.requires.rule_nonzero c.requires.movable.whole.outputs c.move_of-first.ensures c.move_of-second.ensures
