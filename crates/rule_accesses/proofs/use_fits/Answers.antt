-- That a node only accesses vertices below v is read off its top.
use Rattle.std.proofs.Common.{arith}
use Rattle.std.proofs.lemmas.Grind.{common_steps}
use Rattle.definitions.specs.Rule.{use_fits}
use Rattle.rule_accesses.proofs.Laws.{below_top}
use Rattle.rule_accesses.proofs.use_fits.Goals as goal

pub returns-then-v-source_count : goal.returns-then-v-source_count
unfolding use_fits
returns-then-v-source_count c = grind (arith, common_steps, below_top, c.requires.tops_known c.args.k)
