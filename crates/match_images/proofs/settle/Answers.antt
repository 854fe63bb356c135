-- A map that gains one image, or a reason why no match that has these images sends j to v.
use mathlib.Core.Path.{sym, ◌∙◌}
use Prim.Native.Nat.{◌<◌}
use native.Mathlib.Omega.{arith}
use lib.ListN.{length}
use Rattle.definitions.specs.Graph.{graph_of}
use Rattle.rule_fields.specs.Fixed.{fixed_of}
use Rattle.rule_fields.proofs.Fixed.{length-source}
use Rattle.match_look.proofs.Candidates.{Formed, formed, candidate_attributes}
use Rattle.match_images.proofs.Maps.{settled}
use Rattle.match_images.proofs.Steps.{is_taken, disagree}
use Rattle.match_images.proofs.settle.Goals as goal

pub returns-then-is_taken : goal.returns-then-is_taken
returns-then-is_taken c = let well : Formed (fixed_of c.args.rule.now) = formed c.args.rule.now c.requires.matchable in
    let inside : c.args.j < length (fixed_of c.args.rule.now).source = rw (length-source c.args.rule.now) c.requires.vertex in
    is_taken (graph_of c.args.graph.now) (fixed_of c.args.rule.now) well c.args.j c.args.v inside
    c.requires.partial.size (sym c.is_taken.ensures ∙ c.if-is_taken.true)

pub returns-then-not-attributes_agree : goal.returns-then-not-attributes_agree
returns-then-not-attributes_agree c = let well : Formed (fixed_of c.args.rule.now) = formed c.args.rule.now c.requires.matchable in
    let inside : c.args.j < length (fixed_of c.args.rule.now).source = rw (length-source c.args.rule.now) c.requires.vertex in
    disagree (graph_of c.args.graph.now) (fixed_of c.args.rule.now) well c.args.j c.args.v inside
    c.requires.partial.size (sym c.attributes_agree.ensures ∙ c.if-not-attributes_agree.true)

pub returns : goal.returns
returns c = let well : Formed (fixed_of c.args.rule.now) = formed c.args.rule.now c.requires.matchable in
    let inside : c.args.j < length (fixed_of c.args.rule.now).source = rw (length-source c.args.rule.now) c.requires.vertex in
    settled (graph_of c.args.graph.now) (fixed_of c.args.rule.now) well c.args.j c.args.v c.args.images.now inside
    (omega (arith, c.requires.vertex, c.requires.matchable.readable.whole.source)) c.requires.partial c.requires.candidate
    (sym c.is_taken.ensures ∙ c.if-is_taken.false) c.requires.inputs
    (sym c.attributes_agree.ensures ∙ c.if-not-attributes_agree.false)

pub attributes_agree-requires-clause-source_attributes : goal.attributes_agree-requires-clause-source_attributes
attributes_agree-requires-clause-source_attributes c = let well : Formed (fixed_of c.args.rule.now) = formed c.args.rule.now c.requires.matchable in
    let inside : c.args.j < length (fixed_of c.args.rule.now).source = rw (length-source c.args.rule.now) c.requires.vertex in
    let fit = candidate_attributes (graph_of c.args.graph.now) (fixed_of c.args.rule.now) well c.args.j c.args.v
    inside c.requires.candidate in record { vertex = c.requires.vertex; slot = c.requires.slot; enough = fit }
