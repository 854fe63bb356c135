-- The tests are the definition's, on the form that was read. An access to a vertex that has no place among the images gives nothing.
use mathlib.Core.Path.{◌≡◌, sym, ap, ◌∙◌}
use mathlib.Core.Option.{none, some}
use native.Mathlib.Omega.{arith}
use Rattle.definitions.specs.Graph.{graph_of}
use Rattle.definitions.specs.Rule.{node_form}
use Rattle.definitions.specs.Match.{read_attribute}
use Rattle.std.proofs.lemmas.Int.{to_z-of_z}
use Rattle.numbers.specs.Value.{value_of}
use Rattle.match_leaves.proofs.Laws.{read-outside, any-gives, constant_gives, read-gives}
use Rattle.match_leaves.proofs.leaf_value.Goals as goal

pub returns-then-form-eq-FORM_ANY : goal.returns-then-form-eq-FORM_ANY
unfolding value_of
returns-then-form-eq-FORM_ANY c = any-gives c.args.rule.now c.args.k c.requires.leaf.inside (read_attribute (graph_of c.args.graph.now) c.args.images.now)
    (sym c.node_form-form.ensures.0 ∙ c.if-form-eq-FORM_ANY.true)

pub returns-then-form-eq-FORM_CONSTANT : goal.returns-then-form-eq-FORM_CONSTANT
unfolding value_of
returns-then-form-eq-FORM_CONSTANT c = ap some (grind (arith, to_z-of_z, c.node_number.ensures))
    ∙ constant_gives c.args.rule.now c.args.k c.requires.leaf.inside
    (read_attribute (graph_of c.args.graph.now) c.args.images.now)
    (sym c.node_form-form.ensures.0 ∙ c.if-form-eq-FORM_CONSTANT.true)

-- the vertex has no place among the images
pub returns-then-vertex-ge-SIDE_CAPACITY : goal.returns-then-vertex-ge-SIDE_CAPACITY
unfolding value_of
returns-then-vertex-ge-SIDE_CAPACITY c = let is_access : node_form c.args.rule.now c.args.k ≡ 2 = omega (arith, c.node_form-form.ensures.0, c.if-form-eq-FORM_ANY.false, c.if-form-eq-FORM_CONSTANT.false, c.requires.leaf.form) in
    let graph = c.args.graph.now in
    let images = c.args.images.now in
    let none_read = read-outside graph images c.node_byte-vertex.result c.node_byte-place.result
    (omega (arith, c.if-vertex-ge-SIDE_CAPACITY.true, c.requires.node_evaluation.image_size)) (omega (arith, c.requires.node_evaluation.table.whole.slots)) in
    read-gives c.args.rule.now c.args.k c.requires.leaf.inside (read_attribute (graph_of graph) images) c.node_byte-vertex.result
    c.node_byte-place.result none c.node_byte-vertex.ensures.0 c.node_byte-place.ensures.0 none_read is_access

pub returns : goal.returns
returns c = let is_access : node_form c.args.rule.now c.args.k ≡ 2 = omega (arith, c.node_form-form.ensures.0, c.if-form-eq-FORM_ANY.false, c.if-form-eq-FORM_CONSTANT.false, c.requires.leaf.form) in
    let rule = c.args.rule.now in
    let read = read_attribute (graph_of c.args.graph.now) c.args.images.now in
    read-gives rule c.args.k c.requires.leaf.inside read c.node_byte-vertex.result c.node_byte-place.result
    (value_of c.read_attribute.result) c.node_byte-vertex.ensures.0 c.node_byte-place.ensures.0 c.read_attribute.ensures
    is_access
