-- The first move where it applies, and else the second.
use borrow.Author.Rules.{rules}
use Rattle.redirection.specs.Moves.{moved}
use Rattle.redirection.proofs.redirected.Goals as goal

pub returns : goal.returns
unfolding moved
returns c = simp (c.moved_by.ensures, c.moved_by-other.ensures)
