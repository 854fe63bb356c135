use mathlib.Core.Path.{refl, sym, ap, ◌∙◌}
use mathlib.Core.List.{map-id}
use Prim.Native.Nat.{◌<◌}
use native.Mathlib.Omega.{arith}
use lib.Seq.{length-take-le, get_or-take}
use Rattle.definitions.specs.Lists.{padded}
use Rattle.definitions.specs.Graph.{unused_place}
use Rattle.laws.proofs.Lists.{get_or_any}
use Rattle.laws.proofs.Filling.{filling_none, filling_more, filling_all}
use Rattle.listing_lists.specs.Lists.{list_limit}
use Rattle.listing_lines.proofs.places_of.Goals as goal

pub loop-i-init : goal.loop-i-init
unfolding padded
loop-i-init c = filling_none (sym (length-take-le c.args.count c.args.«words» (omega (arith, c.requires.words_len, c.requires.count_le_list_limit)))) c.requires.count_le_list_limit refl

pub loop-i-preserved : goal.loop-i-preserved
loop-i-preserved c = let few : c.loop-i.i < list_limit = omega (arith, c.loop-i-test.true, c.requires.count_le_list_limit) in
    filling_more unused_place c.loop-i.invariant c.loop-i-test.true
    (get_or_any c.args.«words» c.loop-i.i 0 unused_place (omega (arith, few, c.requires.words_len))
    ∙ sym (get_or-take c.args.count c.args.«words» c.loop-i.i unused_place c.loop-i-test.true))

pub returns : goal.returns
returns c = filling_all c.loop-i.invariant c.loop-i-test.false ∙ ap (padded list_limit unused_place) (map-id _)
