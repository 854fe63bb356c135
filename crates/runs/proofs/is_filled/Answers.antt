use Rattle.std.proofs.Common.{rules}
use borrow.Author.Tests.{tests}
use lib.Dec.{eqb}
use Rattle.laws.proofs.Between.{all_between}
use Rattle.definitions.specs.Fields.{byte_at, filled}
use Rattle.runs.proofs.is_filled.Goals as goal

pub returns : goal.returns
unfolding filled
returns c = all_between (λ at. eqb (byte_at c.args.block.now at) c.args.value) c.args.from c.args.to _ _ _ c.all.ensures.ran (λ x b q k. search (rules, tests))
