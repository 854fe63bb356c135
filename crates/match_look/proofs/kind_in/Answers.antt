-- The kind is the lowest byte.
use borrow.Author.Rules.{rules}
use Rattle.match_look.specs.Head.{head_in}
use Rattle.match_look.proofs.kind_in.Goals as goal

pub returns : goal.returns
unfolding head_in
returns c = search rules
