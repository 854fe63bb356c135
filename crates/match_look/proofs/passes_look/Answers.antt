-- The look at the slot's head.
use Rattle.match_look.specs.Candidate.{passes_look}
use Rattle.match_look.proofs.passes_look.Goals as goal

pub returns : goal.returns
unfolding passes_look
returns c = rw (← c.slot_head.ensures) c.head_fits.ensures
