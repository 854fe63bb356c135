-- Each number is a byte of the word.
use Rattle.match_look.proofs.Words.{head-packed}
use Rattle.match_look.proofs.packed.Goals as goal

pub returns : goal.returns
returns c = head-packed c.args.kind c.args.operator c.args.inputs c.args.attributes
    c.requires.kind_bound c.requires.operator_bound c.requires.inputs_bound c.requires.attributes_bound
