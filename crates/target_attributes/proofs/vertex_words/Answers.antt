use mathlib.Core.Path.{◌≡◌, refl, sym, ap, ◌∙◌}
use Prim.Native.Nat.{◌<◌, ◌≤◌}
use native.Mathlib.Omega.{arith}
use lib.ListN.{length}
use Rattle.definitions.specs.Lists.{all_below, padded}
use Rattle.definitions.specs.Graph.{attribute_limit, graph_of}
use Rattle.definitions.specs.Rule.{target_of}
use Rattle.definitions.specs.Match.{read_attribute}
use Rattle.rule_fields.specs.Fixed.{fixed_of}
use Rattle.laws.proofs.Lists.{all_below_step}
use Rattle.new_words.specs.Words.{index_like}
use Rattle.target_attributes.specs.Fitness.{fit_at}
use Rattle.target_attributes.proofs.Laws.{fit-tested, words_more, told_unfit, told_fit}
use Rattle.target_attributes.proofs.vertex_words.Goals as goal

pub loop-i-init : goal.loop-i-init
unfolding all_below padded
loop-i-init c = (refl, refl)

pub returns-then-not-is_fit : goal.returns-then-not-is_fit
returns-then-not-is_fit c = let left : c.loop-i.i < length (target_of (fixed_of c.args.rule.now) c.args.t).attributes = omega (arith, c.loop-i-test.true, c.target_attribute_count-count.ensures.0) in
    let tested : c.is_fit.result ≡ fit_at (read_attribute (graph_of c.args.graph.now) c.args.images.now) (target_of (fixed_of c.args.rule.now) c.args.t) c.loop-i.i = fit-tested (read_attribute (graph_of c.args.graph.now) c.args.images.now) (target_of (fixed_of c.args.rule.now) c.args.t) c.loop-i.i c.target_kind-kind.result c.target_value-value.result
    c.target_kind-kind.ensures.0 c.target_value-value.ensures.result_value
    (c.is_fit.ensures ∙ ap (index_like c.target_kind-kind.result) c.widened.ensures) in
    told_unfit (read_attribute (graph_of c.args.graph.now) c.args.images.now) (target_of (fixed_of c.args.rule.now) c.args.t) c.loop-i.i left c.loop-i.invariant.0
    (sym tested ∙ c.if-not-is_fit.true)

pub loop-i-preserved : goal.loop-i-preserved
loop-i-preserved c = let tested : c.is_fit.result ≡ fit_at (read_attribute (graph_of c.args.graph.now) c.args.images.now) (target_of (fixed_of c.args.rule.now) c.args.t) c.loop-i.i = fit-tested (read_attribute (graph_of c.args.graph.now) c.args.images.now) (target_of (fixed_of c.args.rule.now) c.args.t) c.loop-i.i c.target_kind-kind.result c.target_value-value.result
    c.target_kind-kind.ensures.0 c.target_value-value.ensures.result_value
    (c.is_fit.ensures ∙ ap (index_like c.target_kind-kind.result) c.widened.ensures) in
    let left : c.loop-i.i < length (target_of (fixed_of c.args.rule.now) c.args.t).attributes = omega (arith, c.loop-i-test.true, c.target_attribute_count-count.ensures.0) in
    let places : length (target_of (fixed_of c.args.rule.now) c.args.t).attributes ≤ attribute_limit = omega (arith, c.target_attribute_count-count.ensures.0, c.target_attribute_count-count.ensures.1) in (
      all_below_step (fit_at (read_attribute (graph_of c.args.graph.now) c.args.images.now) (target_of (fixed_of c.args.rule.now) c.args.t)) c.loop-i.i c.loop-i.invariant.0 (sym tested ∙ c.if-not-is_fit.false),
      rw (c.loop-i.invariant.1, c.word_of.ensures)
          (words_more (read_attribute (graph_of c.args.graph.now) c.args.images.now) (target_of (fixed_of c.args.rule.now) c.args.t) c.loop-i.i c.target_value-value.result left places c.target_value-value.ensures.result_value),
    )

pub returns : goal.returns
returns c = told_fit (read_attribute (graph_of c.args.graph.now) c.args.images.now) (target_of (fixed_of c.args.rule.now) c.args.t) c.loop-i.i c.loop-i.words
    (omega (arith, c.loop-i-test.false, c.target_attribute_count-count.ensures.0)) c.loop-i.invariant.0 c.loop-i.invariant.1
