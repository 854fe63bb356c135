-- A test that fails refutes one part of what is asked of a sound rule; what a passed test says of the bytes is what the next one asks.
use mathlib.Core.Path.{◌≡◌, sym, ◌∙◌}
use mathlib.Core.Bool.{true}
use Prim.Native.Nat.{◌+◌, ◌≤◌}
use native.Mathlib.Omega.{arith}
use lib.Dec.{ltb}
use lib.ListN.{length}
use Rattle.definitions.specs.Lists.{all, lowest}
use Rattle.definitions.specs.Rule.{source_count, target_count, bad_vertex_of, out_of_order, outputs_fit}
use Rattle.rule_fields.specs.Fixed.{fixed_of}
use Rattle.variadic_sound.specs.Judged.{Judgeable}
use Rattle.variadic_sound.proofs.Sound.{no_source, output-outside, bad_vertex-found, layers, misplaced, outputs-unfit, source_uses_unfit, uses_left}
use Rattle.variadic_sound.proofs.is_sound.Goals as goal

pub returns-then-sources-eq0 : goal.returns-then-sources-eq0
returns-then-sources-eq0 c = no_source c.args.rule.now (omega (arith, c.if-sources-eq0.true, c.source_count-sources.ensures.0))

pub returns-then-not-outputs_inside : goal.returns-then-not-outputs_inside
returns-then-not-outputs_inside c = output-outside c.args.rule.now (sym c.outputs_inside.ensures ∙ c.if-not-outputs_inside.true)

pub returns-then-bad_vertex-sources : goal.returns-then-bad_vertex-sources
returns-then-bad_vertex-sources c = let judged : Judgeable c.args.rule.now = c.requires in
    bad_vertex-found c.args.rule.now judged
    (omega (arith, c.if-bad_vertex-sources.true, c.target_count.ensures.0, c.bad_vertex.ensures, c.source_count-sources.ensures.0))

pub first_misplaced-requires : goal.first_misplaced-requires
first_misplaced-requires c = let judged : Judgeable c.args.rule.now = c.requires in
    let inside : let r = fixed_of c.args.rule.now in all (λ o. ltb o (length r.source)) r.source_outputs ≡ true = sym c.outputs_inside.ensures ∙ c.if-not-outputs_inside.false in
    let vertices : let rule = c.args.rule.now in
    let n = source_count rule + target_count rule in n ≤ lowest (bad_vertex_of (fixed_of rule) rule) n = omega (
      arith,
      c.if-bad_vertex-sources.false,
      c.target_count.ensures.0,
      c.bad_vertex.ensures,
      c.source_count-sources.ensures.0,
    ) in
    layers c.args.rule.now judged inside vertices

pub returns-then-first_misplaced-sources : goal.returns-then-first_misplaced-sources
returns-then-first_misplaced-sources c = misplaced c.args.rule.now (omega (arith, c.if-first_misplaced-sources.true, c.first_misplaced.ensures, c.source_count-sources.ensures.0))

pub outputs_fit-requires : goal.outputs_fit-requires
outputs_fit-requires c = let judged : Judgeable c.args.rule.now = c.requires in
    let inside : let r = fixed_of c.args.rule.now in all (λ o. ltb o (length r.source)) r.source_outputs ≡ true = sym c.outputs_inside.ensures ∙ c.if-not-outputs_inside.false in
    let vertices : let rule = c.args.rule.now in
    let n = source_count rule + target_count rule in n ≤ lowest (bad_vertex_of (fixed_of rule) rule) n = omega (
      arith,
      c.if-bad_vertex-sources.false,
      c.target_count.ensures.0,
      c.bad_vertex.ensures,
      c.source_count-sources.ensures.0,
    ) in
    layers c.args.rule.now judged inside vertices

pub returns-then-not-outputs_fit : goal.returns-then-not-outputs_fit
returns-then-not-outputs_fit c = outputs-unfit c.args.rule.now
    (sym c.outputs_fit.ensures ∙ c.if-not-outputs_fit.true)

pub returns-then-not-sources_use_fit : goal.returns-then-not-sources_use_fit
returns-then-not-sources_use_fit c = source_uses_unfit c.args.rule.now
    (sym c.sources_use_fit.ensures ∙ c.if-not-sources_use_fit.true)

pub returns : goal.returns
returns c = let judged : Judgeable c.args.rule.now = c.requires in
    let inside : let r = fixed_of c.args.rule.now in all (λ o. ltb o (length r.source)) r.source_outputs ≡ true = sym c.outputs_inside.ensures ∙ c.if-not-outputs_inside.false in
    let vertices : let rule = c.args.rule.now in
    let n = source_count rule + target_count rule in n ≤ lowest (bad_vertex_of (fixed_of rule) rule) n = omega (
      arith,
      c.if-bad_vertex-sources.false,
      c.target_count.ensures.0,
      c.bad_vertex.ensures,
      c.source_count-sources.ensures.0,
    ) in
    let order : let rule = c.args.rule.now in source_count rule ≤ lowest (out_of_order (fixed_of rule)) (source_count rule) = omega (arith, c.if-first_misplaced-sources.false, c.first_misplaced.ensures, c.source_count-sources.ensures.0) in
    let some : 1 ≤ source_count c.args.rule.now = omega (arith, c.if-sources-eq0.false, c.source_count-sources.ensures.0) in
    let outputs : outputs_fit (fixed_of c.args.rule.now) ≡ true = sym c.outputs_fit.ensures ∙ c.if-not-outputs_fit.false in
    c.targets_use_fit.ensures
    ∙ uses_left c.args.rule.now judged inside vertices order some outputs
    (sym c.sources_use_fit.ensures ∙ c.if-not-sources_use_fit.false)
