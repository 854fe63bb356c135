-- The loop's invariant: the highest accesses of the nodes below k are known.
use Rattle.variadic_sound.specs.Judged.{TopsBelow}
use Rattle.variadic_sound.proofs.access_tops.Given as goal

abbrev pub invariant-loop-k : goal.invariant-loop-k
invariant-loop-k l = TopsBelow l.rule l.k l.tops
