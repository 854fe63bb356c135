-- Every place is compared with the image that stands there.
use mathlib.Core.Path.{refl}
use Prim.Native.Nat.{◌*◌}
use Rattle.std.proofs.Common.{rules}
use borrow.Author.Tests.{tests}
use lib.Dec.{eqb}
use lib.ListN.{get_or}
use Rattle.definitions.specs.Fields.{u16_at}
use Rattle.laws.proofs.Searches.{all_of_range}
use Rattle.match_map.proofs.holds_images.Goals as goal

pub returns : goal.returns
returns c =
    all_of_range (λ j. eqb (u16_at c.args.map.now (2 * j)) (get_or c.args.images.now j 0)) refl _ _ _ c.all.ensures.ran (λ x b q k. search (rules, tests))
