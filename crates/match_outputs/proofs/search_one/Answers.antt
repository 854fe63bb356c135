-- What is known of the one output before the loop, and what each turn comes to.
use mathlib.Core.Path.{◌≡◌}
use mathlib.Core.List.{List, [], ◌∷◌}
use Prim.Native.Nat.{ℕ, ◌+◌, ◌<◌}
use native.Mathlib.Omega.{arith}
use lib.ListN.{length}
use Rattle.definitions.specs.Graph.{slot_count, graph_of}
use Rattle.definitions.specs.Rule.{source_count, source_of}
use Rattle.rule_fields.specs.Fixed.{fixed_of}
use Rattle.rule_fields.proofs.Fixed.{length-source}
use Rattle.match_look.specs.Head.{Head, head_in, pattern_head}
use Rattle.match_look.specs.Candidate.{passes_look}
use Rattle.match_candidates.specs.Listed.{NextFrom}
use Rattle.match_outputs.specs.Finds.{SearchReady}
use Rattle.match_outputs.proofs.Steps.{Passed, AtCandidate, at_next, passed_start, blank-start, blank-after, nothing_mapped, root_fails, root-made, first-inside, first_candidate, first_in_order, all_passed, nothing_found, one_found}
use Rattle.match_outputs.proofs.search_one.Goals as goal

module _ (graph rule demanded : List ℕ) (root : ℕ) (ready : SearchReady graph rule demanded (root ∷ [])) where
  inside : root < length (fixed_of rule).source
  inside = first-inside graph rule ready.working root [] ready.listed

  vertex : root < source_count rule
  vertex = omega (arith, inside, length-source rule)

  -- up to the next candidate, all is passed that was passed before the slot where the look begins
  on_to : (start slots from next : ℕ) (h : Head) → h ≡ pattern_head (source_of (fixed_of rule) root) → slots ≡ slot_count graph
      → NextFrom (passes_look h (graph_of graph)) from (slot_count graph) next → Passed (graph_of graph) (fixed_of rule) root start from
      → AtCandidate (graph_of graph) (fixed_of rule) root start h slots next
  on_to start slots from next h e k n passed = at_next (graph_of graph) (fixed_of rule) root start h inside e k n passed

pub pattern_head-head-requires-clause-j_bound : goal.pattern_head-head-requires-clause-j_bound
pattern_head-head-requires-clause-j_bound c = vertex c.args.graph.now c.args.rule.now c.args.demands.now c.args.root c.requires

pub loop-slot-init : goal.loop-slot-init
loop-slot-init c = (
  on_to c.args.graph.now c.args.rule.now c.args.demands.now c.args.root c.requires c.args.start c.slot_count-slots.result c.args.start
      c.next_candidate-slot.result (head_in c.pattern_head-head.result) c.pattern_head-head.ensures c.slot_count-slots.ensures.0
      c.next_candidate-slot.ensures (passed_start (graph_of c.args.graph.now) (fixed_of c.args.rule.now) c.args.root c.args.start),
  blank-start (fixed_of c.args.rule.now),
)

pub match_candidate-requires : goal.match_candidate-requires
match_candidate-requires c = record {
  setting = c.requires.setting;
  vertex = vertex c.args.graph.now c.args.rule.now c.args.demands.now c.args.root c.requires;
  slot = omega (arith, c.loop-slot-test.true, c.slot_count-slots.ensures.0);
  candidate = first_candidate c.args.graph.now c.args.rule.now c.requires.working c.args.root [] c.requires.listed
      (head_in c.pattern_head-head.result) c.pattern_head-head.ensures c.loop-slot.slot
      (c.loop-slot.invariant.0.looked c.loop-slot-test.true);
  fresh = omega arith;
  partial = nothing_mapped (graph_of c.args.graph.now) (fixed_of c.args.rule.now) c.loop-slot.images c.loop-slot.invariant.1.size;
  order = first_in_order c.args.graph.now c.args.rule.now c.requires.working c.args.root [] c.requires.listed;
}

pub returns-then-match_candidate : goal.returns-then-match_candidate
returns-then-match_candidate c =
    let step = c.match_candidate.ensures in
    one_found c.args.graph.now c.args.rule.now c.requires.working c.args.root c.requires.listed c.args.start c.loop-slot.slot
    c.loop-slot.invariant.0.passed
    (root-made (graph_of c.args.graph.now) (fixed_of c.args.rule.now) c.args.root c.loop-slot.slot step c.if-match_candidate.true)
    (blank-after step.size step.rest c.loop-slot.invariant.1)

pub loop-slot-preserved : goal.loop-slot-preserved
loop-slot-preserved c =
    let step = c.match_candidate.ensures in (
      on_to c.args.graph.now c.args.rule.now c.args.demands.now c.args.root c.requires c.args.start c.slot_count-slots.result
          (c.loop-slot.slot + 1) c.next_candidate-slot-in-loop-slot.result (head_in c.pattern_head-head.result)
          c.pattern_head-head.ensures c.slot_count-slots.ensures.0 c.next_candidate-slot-in-loop-slot.ensures
          (root_fails (graph_of c.args.graph.now) (fixed_of c.args.rule.now) c.args.root c.loop-slot.slot step c.args.start
          c.loop-slot.invariant.0.passed c.if-match_candidate.false),
      blank-after step.size step.rest c.loop-slot.invariant.1,
    )

pub returns : goal.returns
returns c =
    nothing_found c.args.graph.now c.args.rule.now c.requires.working c.args.start
    (all_passed c.args.graph.now c.args.rule.now c.requires.working c.args.root [] c.requires.listed c.args.start c.loop-slot.slot
    c.loop-slot.invariant.0.passed (omega (arith, c.loop-slot-test.false, c.slot_count-slots.ensures.0)))
