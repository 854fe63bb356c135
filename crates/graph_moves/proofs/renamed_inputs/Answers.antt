use mathlib.Core.Path.{◌≡◌, refl, sym, ap, ◌∙◌}
use Prim.Native.Nat.{◌<◌}
use native.Mathlib.Omega.{arith}
use lib.ListN.{get_or, take}
use lib.Seq.{length-take-le, get_or-take}
use Rattle.definitions.specs.Lists.{padded}
use Rattle.definitions.specs.Graph.{slot_limit, input_limit, unused_place}
use Rattle.laws.proofs.Lists.{get_or_any}
use Rattle.laws.proofs.Filling.{filling_none, filling_more}
use Rattle.graph_moves.specs.Moving.{name_in}
use Rattle.graph_moves.proofs.renamed_inputs.Goals as goal

pub loop-i-init : goal.loop-i-init
unfolding padded
loop-i-init c = filling_none (sym (length-take-le c.args.n c.args.inputs.now (omega (arith, c.requires.inputs_len, c.requires.n_le_input_limit)))) c.requires.n_le_input_limit refl

pub loop-i-preserved : goal.loop-i-preserved
loop-i-preserved c = let few : c.loop-i.i < input_limit = omega (arith, c.loop-i-test.true, c.requires.n_le_input_limit) in
    let name : c.from.result ≡ get_or (take c.args.n c.args.inputs.now) c.loop-i.i unused_place = c.from.ensures
    ∙ get_or_any c.args.inputs.now c.loop-i.i 0 unused_place (omega (arith, few, c.requires.inputs_len))
    ∙ sym (get_or-take c.args.n c.args.inputs.now c.loop-i.i unused_place c.loop-i-test.true) in
    let named : c.from.result < slot_limit = rw name (c.requires.renamable c.loop-i.i (omega (arith, c.loop-i-test.true, c.loop-i.invariant.counted))) in
    filling_more unused_place c.loop-i.invariant c.loop-i-test.true
    (get_or_any c.args.to.now c.from.result 0 unused_place (omega (arith, named, c.requires.to_len)) ∙ ap (name_in c.args.to.now) name)
