-- What is known of the outputs, and what each turn comes to.
use mathlib.Core.Path.{◌≡◌, refl, sym, ◌∙◌}
use mathlib.Core.List.{List}
use Prim.Native.Nat.{ℕ, suc, ◌<◌, max}
use native.Mathlib.Omega.{arith}
use lib.ListN.{length, get_or}
use Rattle.definitions.specs.Graph.{graph_of}
use Rattle.definitions.specs.Rule.{source_count, rule_output_count}
use Rattle.rule_fields.specs.Fixed.{fixed_of}
use Rattle.laws.proofs.Members.{mem-at}
use Rattle.laws.proofs.Graph.{length-slots}
use Rattle.rule_fields.proofs.Fixed.{length-source, length-source-outputs}
use Rattle.rule_nodes.specs.Working.{WorkingRule}
use Rattle.match_map.proofs.Laws.{attempt-start, output_in_order, output_fails, output-outside, output_passes, attempt_ends}
use Rattle.match_map.proofs.attempt.Goals as goal

module _ (rule : List ℕ) (outputs : ℕ) (count : outputs ≡ rule_output_count rule) where
  all-outputs : length (fixed_of rule).source_outputs ≡ outputs
  all-outputs = omega (arith, length-source-outputs rule)

  -- an output is left
  left : (i : ℕ) → i < outputs → i < length (fixed_of rule).source_outputs
  left i l = omega (arith, all-outputs)

-- it is a source vertex
inside : (rule : List ℕ) → WorkingRule rule → (i o : ℕ) → i < length (fixed_of rule).source_outputs
    → o ≡ get_or (fixed_of rule).source_outputs i 255 → o < source_count rule
inside rule working i o l e =
    rw (e, ← length-source rule)
    (working.sound.outputs_inside (get_or (fixed_of rule).source_outputs i 255) (mem-at (fixed_of rule).source_outputs i 255 l))

pub loop-i-init : goal.loop-i-init
loop-i-init c = attempt-start (graph_of c.args.graph.now) c.args.rule.now c.args.map.now c.args.images.now c.requires.working c.requires.space

pub returns-then-slots-slot : goal.returns-then-slots-slot
returns-then-slots-slot c =
    let l = left c.args.rule.now c.output_count-outputs.result c.output_count-outputs.ensures.0 c.loop-i.i c.loop-i-test.true in
    output-outside (graph_of c.args.graph.now) (fixed_of c.args.rule.now) c.loop-i.invariant c.source_output-output.result
    c.u16_at-slot.result l c.source_output-output.ensures.0 c.u16_at-slot.ensures.0
    (omega (arith, l, length-source-outputs c.args.rule.now))
    (omega (
      arith,
      length-source c.args.rule.now,
      inside c.args.rule.now c.requires.working c.loop-i.i c.source_output-output.result l c.source_output-output.ensures.0,
    ))
    (omega (arith, c.if-slots-slot.true, length-slots c.args.graph.now, c.slot_count-slots.ensures.0))

pub match_vertex-requires : goal.match_vertex-requires
match_vertex-requires c =
    let l = left c.args.rule.now c.output_count-outputs.result c.output_count-outputs.ensures.0 c.loop-i.i c.loop-i-test.true in
    record {
      setting = c.requires.setting;
      vertex = inside c.args.rule.now c.requires.working c.loop-i.i c.source_output-output.result l c.source_output-output.ensures.0;
      slot = omega (arith, c.if-slots-slot.false, c.slot_count-slots.ensures.0);
      partial = c.loop-i.invariant.step.partial refl;
      order = output_in_order (graph_of c.args.graph.now) (fixed_of c.args.rule.now) c.loop-i.invariant c.source_output-output.result
          c.u16_at-slot.result l c.source_output-output.ensures.0 c.u16_at-slot.ensures.0;
    }

pub returns-then-not-match_vertex : goal.returns-then-not-match_vertex
returns-then-not-match_vertex c =
    let l = left c.args.rule.now c.output_count-outputs.result c.output_count-outputs.ensures.0 c.loop-i.i c.loop-i-test.true in
    output_fails (graph_of c.args.graph.now) (fixed_of c.args.rule.now) c.loop-i.invariant c.source_output-output.result
    c.u16_at-slot.result l c.source_output-output.ensures.0 c.u16_at-slot.ensures.0
    (omega (arith, l, length-source-outputs c.args.rule.now)) c.match_vertex.ensures.step c.if-not-match_vertex.true

pub loop-i-preserved : goal.loop-i-preserved
loop-i-preserved c =
    let l = left c.args.rule.now c.output_count-outputs.result c.output_count-outputs.ensures.0 c.loop-i.i c.loop-i-test.true in
    let next : c.max-next.result ≡ max c.loop-i.next (suc c.source_output-output.result) = omega (arith, c.max-next.ensures) in
    output_passes (graph_of c.args.graph.now) (fixed_of c.args.rule.now) c.loop-i.invariant c.source_output-output.result
    c.u16_at-slot.result l c.source_output-output.ensures.0 c.u16_at-slot.ensures.0 next c.match_vertex.ensures.step
    c.if-not-match_vertex.false

pub returns : goal.returns
returns c =
    let end : c.loop-i.i ≡ c.output_count-outputs.result = omega (arith, c.loop-i-test.false) in
    attempt_ends (graph_of c.args.graph.now) (fixed_of c.args.rule.now) c.loop-i.invariant (rule_output_count c.args.rule.now)
    (source_count c.args.rule.now) (end ∙ c.output_count-outputs.ensures.0)
    (omega (arith, end, all-outputs c.args.rule.now c.output_count-outputs.result c.output_count-outputs.ensures.0))
    (sym (length-source c.args.rule.now))
