use mathlib.Core.Path.{refl, ◌∙◌}
use Prim.Native.Nat.{◌<◌}
use native.Mathlib.Omega.{arith}
use lib.ListN.{length}
use Rattle.definitions.specs.Lists.{all_below}
use Rattle.definitions.specs.Graph.{graph_of}
use Rattle.definitions.specs.Rule.{target_of}
use Rattle.definitions.specs.Match.{read_attribute}
use Rattle.definitions.specs.Rewriting.{vertex_results}
use Rattle.rule_fields.specs.Fixed.{fixed_of}
use Rattle.laws.proofs.Lists.{all_below_step}
use Rattle.rule_fields.proofs.Fixed.{length-target}
use Rattle.target_attributes.specs.Fitness.{vertex_given, is_fit, words_of, target_fitness}
use Rattle.target_attributes.proofs.Laws.{told_given, unfit-first, none_unfit, err-unfit, ok-fit}
use Rattle.target_attributes.proofs.all_fit.Goals as goal

pub loop-t-init : goal.loop-t-init
unfolding all_below
loop-t-init c = refl

pub returns-then-is_err : goal.returns-then-is_err
unfolding target_fitness
returns-then-is_err c = let read = read_attribute (graph_of c.args.graph.now) c.args.images.now in
    let rule = fixed_of c.args.rule.now in
    let found = c.vertex_words-found in
    let left : c.loop-t.t < length rule.target = omega (arith, c.target_count-count.ensures.0, length-target c.args.rule.now) in
    unfit-first (vertex_given read rule) (length rule.target) c.loop-t.t left c.loop-t.invariant
    (told_given (vertex_results read (target_of rule c.loop-t.t)) (is_fit found.result) (words_of found.result) found.ensures.given
    ∙ err-unfit found.result c.is_err.ensures.value c.if-is_err.true)

pub loop-t-preserved : goal.loop-t-preserved
loop-t-preserved c = let read = read_attribute (graph_of c.args.graph.now) c.args.images.now in
    let rule = fixed_of c.args.rule.now in
    let found = c.vertex_words-found in
    all_below_step (vertex_given read rule) c.loop-t.t c.loop-t.invariant
    (told_given (vertex_results read (target_of rule c.loop-t.t)) (is_fit found.result) (words_of found.result) found.ensures.given
    ∙ ok-fit found.result c.is_err.ensures.value c.if-is_err.false)

pub returns : goal.returns
unfolding target_fitness
returns c = none_unfit (vertex_given (read_attribute (graph_of c.args.graph.now) c.args.images.now) (fixed_of c.args.rule.now)) (length (fixed_of c.args.rule.now).target) c.loop-t.t
    (omega (arith, c.target_count-count.ensures.0, length-target c.args.rule.now)) c.loop-t.invariant
