-- Each turn reads the image of one source vertex, and marks it where it goes.
use mathlib.Core.Path.{sym, ◌∙◌}
use Prim.Native.Nat.{◌<◌}
use native.Mathlib.Omega.{arith}
use Rattle.definitions.specs.Graph.{slot_count, graph_of}
use Rattle.definitions.specs.Rule.{source_count}
use Rattle.rule_fields.specs.Fixed.{fixed_of}
use Rattle.rule_fields.proofs.Fixed.{length-source}
use Rattle.vacancies.proofs.Steps.{marks_same, free_none, free_all, image_inside, turn_put, turn_pass}
use Rattle.vacancies.proofs.find_free.Goals as goal

pub loop-j-init : goal.loop-j-init
loop-j-init c = marks_same (λ i l. free_none (graph_of c.args.graph.now) (fixed_of c.args.rule.now) c.args.images.now i) c.mark_empty-free.ensures

pub image_goes-requires-clause-image_bound : goal.image_goes-requires-clause-image_bound
image_goes-requires-clause-image_bound c = image_inside c.args.graph.now c.args.rule.now c.args.images.now c.requires c.loop-j.j c.from-image.result
    (omega (arith, c.source_count-vertices.ensures.0)) c.from-image.ensures

pub bounds-free-image : goal.bounds-free-image
bounds-free-image c =
    let inside : c.from-image.result < slot_count c.args.graph.now = image_inside c.args.graph.now c.args.rule.now c.args.images.now c.requires c.loop-j.j
    c.from-image.result (omega (arith, c.source_count-vertices.ensures.0)) c.from-image.ensures in
    omega (arith, c.requires.table.slots)

pub loop-j-preserved : goal.loop-j-preserved
loop-j-preserved c =
    let graph = c.args.graph.now in
    let rule = c.args.rule.now in
    let images = c.args.images.now in
    let vertex : c.loop-j.j < source_count rule = omega (arith, c.source_count-vertices.ensures.0) in
    let counted = c.count_places-places.ensures.at c.loop-j.j in
    elim c.if-image_goes.branch [
      | goal.then-image_goes w ↦ rw w.free-is (turn_put graph rule images c.requires c.loop-j.j c.from-image.result vertex c.from-image.ensures counted
          (sym c.image_goes.ensures ∙ w.if-image_goes.true) c.loop-j.invariant)
      | goal.else-image_goes w ↦ rw w.free-is (turn_pass graph rule images c.requires c.loop-j.j c.from-image.result vertex c.from-image.ensures counted
          (sym c.image_goes.ensures ∙ w.if-image_goes.false) c.loop-j.invariant)
    ]

pub returns : goal.returns
returns c = marks_same
    (λ i l. free_all (graph_of c.args.graph.now) (fixed_of c.args.rule.now) c.args.images.now i c.loop-j.j
    (omega (arith, length-source c.args.rule.now)))
    c.loop-j.invariant
