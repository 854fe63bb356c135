-- What is known of the two outputs before the loops, and what each turn comes to.
use mathlib.Core.Path.{◌≡◌, refl}
use mathlib.Core.List.{List, [], ◌∷◌}
use Prim.Native.Nat.{ℕ, suc, ◌+◌, ◌<◌, max}
use native.Mathlib.Omega.{arith}
use lib.ListN.{length, get_or}
use Rattle.definitions.specs.Graph.{slot_count, graph_of}
use Rattle.definitions.specs.Rule.{source_count, source_of}
use Rattle.definitions.specs.Match.{image_of}
use Rattle.rule_fields.specs.Fixed.{fixed_of}
use Rattle.laws.proofs.Graph.{length-slots}
use Rattle.rule_fields.proofs.Fixed.{length-source}
use Rattle.match_images.specs.Partial.{Sends, Step}
use Rattle.match_look.specs.Head.{Head, head_in, pattern_head}
use Rattle.match_look.specs.Candidate.{passes_look}
use Rattle.match_look.proofs.Candidates.{formed}
use Rattle.match_candidates.specs.Listed.{NextFrom, Listed}
use Rattle.match_outputs.specs.Finds.{SearchReady}
use Rattle.match_outputs.proofs.Steps.{Passed, AtCandidate, at_next, passed_start, blank-start, blank-after, nothing_mapped, root_fails, root-made, first-inside, first_candidate, first_in_order, all_passed, nothing_found}
use Rattle.match_pairs.proofs.Pairs.{left-all, left_least, left-next, none_left, rooted_after, second-inside, second_candidate, second_in_order, second-later, two_found}
use Rattle.match_pairs.proofs.search_pairs.Goals as goal
use Rattle.match_pairs.proofs.search_pairs.Goals.{then-match_candidate+else-loop-k-test, else-match_candidate}

-- o is the first output, and q the second
module _ (graph rule demanded : List ℕ) (o q : ℕ) (ready : SearchReady graph rule demanded (o ∷ q ∷ [])) where
  inside : o < length (fixed_of rule).source
  inside = first-inside graph rule ready.working o (q ∷ []) ready.listed

  within : q < length (fixed_of rule).source
  within = second-inside graph rule ready.working o q ready.listed

  first_vertex : o < source_count rule
  first_vertex = omega (arith, inside, length-source rule)

  second_vertex : q < source_count rule
  second_vertex = omega (arith, within, length-source rule)

  -- up to the next candidate, all is passed that was passed before the slot where the look begins
  on_to : (start slots from next : ℕ) (h : Head) → h ≡ pattern_head (source_of (fixed_of rule) o) → slots ≡ slot_count graph
      → NextFrom (passes_look h (graph_of graph)) from (slot_count graph) next → Passed (graph_of graph) (fixed_of rule) o start from
      → AtCandidate (graph_of graph) (fixed_of rule) o start h slots next
  on_to start slots from next h e k n passed = at_next (graph_of graph) (fixed_of rule) o start h inside e k n passed

-- the second output's candidates, as the laws say the graph's length
listed : (graph : List ℕ) (h : Head) (slots : List ℕ) (count : ℕ) → Listed (passes_look h (graph_of graph)) (slot_count graph) slots count
    → Listed (passes_look h (graph_of graph)) (length (graph_of graph).slots) slots count
listed graph h slots count l = rw (length-slots graph) l

-- ---- before the loops

pub pattern_head-head-requires-clause-j_bound : goal.pattern_head-head-requires-clause-j_bound
pattern_head-head-requires-clause-j_bound c =
    first_vertex c.args.graph.now c.args.rule.now c.args.demands.now c.args.root c.args.last c.requires

pub pattern_head-requires-clause-j_bound : goal.pattern_head-requires-clause-j_bound
pattern_head-requires-clause-j_bound c =
    second_vertex c.args.graph.now c.args.rule.now c.args.demands.now c.args.root c.args.last c.requires

-- where none is listed, there is no match
pub returns-then-candidates-eq0 : goal.returns-then-candidates-eq0
returns-then-candidates-eq0 c =
    nothing_found c.args.graph.now c.args.rule.now c.requires.working c.args.start
    (λ whole from.
    let left = left-all (graph_of c.args.graph.now) (fixed_of c.args.rule.now) c.args.root c.args.last (image_of whole c.args.root)
    (head_in c.pattern_head.result) c.pattern_head.ensures
    (listed c.args.graph.now (head_in c.pattern_head.result) c.all_candidates-candidates.result.slots
    c.all_candidates-candidates.result.count c.all_candidates-candidates.ensures)
    (within c.args.graph.now c.args.rule.now c.args.demands.now c.args.root c.args.last c.requires) whole from.is_match refl in
    omega (arith, left.2, c.if-candidates-eq0.true))

pub overflow_add-next : goal.overflow_add-next
overflow_add-next c =
    omega (
      arith,
      first_vertex c.args.graph.now c.args.rule.now c.args.demands.now c.args.root c.args.last c.requires,
      c.requires.setting.matchable.readable.whole.source,
    )

pub search-init : goal.search-init
search-init c = (
  on_to c.args.graph.now c.args.rule.now c.args.demands.now c.args.root c.args.last c.requires c.args.start c.slot_count-slots.result
      c.args.start c.next_candidate-first.result (head_in c.pattern_head-head.result) c.pattern_head-head.ensures
      c.slot_count-slots.ensures.0 c.next_candidate-first.ensures
      (passed_start (graph_of c.args.graph.now) (fixed_of c.args.rule.now) c.args.root c.args.start),
  blank-start (fixed_of c.args.rule.now),
  refl,
)

-- ---- the first output's image

pub match_candidate-requires : goal.match_candidate-requires
match_candidate-requires c = record {
  setting = c.requires.setting;
  vertex = first_vertex c.args.graph.now c.args.rule.now c.args.demands.now c.args.root c.args.last c.requires;
  slot = omega (arith, c.search-test.true, c.slot_count-slots.ensures.0);
  candidate = first_candidate c.args.graph.now c.args.rule.now c.requires.working c.args.root (c.args.last ∷ []) c.requires.listed
      (head_in c.pattern_head-head.result) c.pattern_head-head.ensures c.search.first (c.search.invariant.0.looked c.search-test.true);
  fresh = omega arith;
  partial = nothing_mapped (graph_of c.args.graph.now) (fixed_of c.args.rule.now) c.search.images c.search.invariant.1.size;
  order = first_in_order c.args.graph.now c.args.rule.now c.requires.working c.args.root (c.args.last ∷ []) c.requires.listed;
}

-- ---- the second output's image

pub loop-k-init : goal.loop-k-init
loop-k-init c =
    let step = c.match_candidate.ensures in (
      left-all (graph_of c.args.graph.now) (fixed_of c.args.rule.now) c.args.root c.args.last c.search.first
          (head_in c.pattern_head.result) c.pattern_head.ensures
          (listed c.args.graph.now (head_in c.pattern_head.result) c.all_candidates-candidates.result.slots
          c.all_candidates-candidates.result.count c.all_candidates-candidates.ensures)
          (within c.args.graph.now c.args.rule.now c.args.demands.now c.args.root c.args.last c.requires),
      root-made (graph_of c.args.graph.now) (fixed_of c.args.rule.now) c.args.root c.search.first step c.if-match_candidate.true,
      blank-after step.size step.rest c.search.invariant.1,
      c.search.invariant.2,
    )

pub match_candidate-requires-in-loop-k : goal.match_candidate-requires-in-loop-k
match_candidate-requires-in-loop-k c = record {
  setting = c.requires.setting;
  vertex = second_vertex c.args.graph.now c.args.rule.now c.args.demands.now c.args.root c.args.last c.requires;
  slot = omega (arith, c.from-second.ensures, c.all_candidates-candidates.ensures.below c.loop-k.k c.loop-k-test.true);
  candidate = second_candidate c.args.graph.now c.args.rule.now c.requires.working c.args.root c.args.last c.requires.listed
      (head_in c.pattern_head.result) c.pattern_head.ensures c.from-second.result
      (rw c.from-second.ensures (c.all_candidates-candidates.ensures.holds c.loop-k.k c.loop-k-test.true));
  fresh = omega (arith, second-later c.args.graph.now c.args.rule.now c.requires.working c.args.root c.args.last c.requires.listed);
  partial = c.loop-k.invariant.1.partial;
  order = second_in_order c.args.graph.now c.args.rule.now c.requires.working c.args.root c.args.last c.requires.listed;
}

pub loop-k-preserved : goal.loop-k-preserved
loop-k-preserved c =
    let step : Step (graph_of c.args.graph.now) (fixed_of c.args.rule.now) (c.args.root + 1) c.loop-k.images
    (Sends c.args.last (get_or c.all_candidates-candidates.result.slots c.loop-k.k 0)) (max (c.args.root + 1) (suc c.args.last))
    c.match_candidate-in-loop-k.result c.match_candidate-in-loop-k.new.images
    = rw (← c.from-second.ensures) c.match_candidate-in-loop-k.ensures in (
      left-next (graph_of c.args.graph.now) (fixed_of c.args.rule.now) c.args.root c.args.last c.search.first
          (head_in c.pattern_head.result) c.pattern_head.ensures
          (listed c.args.graph.now (head_in c.pattern_head.result) c.all_candidates-candidates.result.slots
          c.all_candidates-candidates.result.count c.all_candidates-candidates.ensures)
          c.loop-k.k c.loop-k.invariant.0 c.loop-k.invariant.1 step c.if-match_candidate-2.false,
      rooted_after (graph_of c.args.graph.now) (fixed_of c.args.rule.now) c.args.root c.search.first
          (formed c.args.rule.now c.requires.setting.matchable) step c.loop-k.invariant.1,
      blank-after step.size step.rest c.loop-k.invariant.2,
      c.loop-k.invariant.3,
    )

pub returns-then-match_candidate-2 : goal.returns-then-match_candidate-2
returns-then-match_candidate-2 c =
    let step : Step (graph_of c.args.graph.now) (fixed_of c.args.rule.now) (c.args.root + 1) c.loop-k.images
    (Sends c.args.last (get_or c.all_candidates-candidates.result.slots c.loop-k.k 0)) (max (c.args.root + 1) (suc c.args.last))
    c.match_candidate-in-loop-k.result c.match_candidate-in-loop-k.new.images
    = rw (← c.from-second.ensures) c.match_candidate-in-loop-k.ensures in
    two_found c.args.graph.now c.args.rule.now c.requires.working c.args.root c.args.last c.requires.listed c.args.start c.search.first
    (get_or c.all_candidates-candidates.result.slots c.loop-k.k 0) c.search.invariant.0.passed
    (left_least (graph_of c.args.graph.now) (fixed_of c.args.rule.now) c.args.root c.args.last c.search.first
    (head_in c.pattern_head.result) c.pattern_head.ensures
    (listed c.args.graph.now (head_in c.pattern_head.result) c.all_candidates-candidates.result.slots
    c.all_candidates-candidates.result.count c.all_candidates-candidates.ensures)
    c.loop-k.k c.loop-k.invariant.0 c.loop-k-test.true)
    c.loop-k.invariant.1 step c.if-match_candidate-2.true (blank-after step.size step.rest c.loop-k.invariant.2)

-- ---- the next first image

pub search-preserved : goal.search-preserved
search-preserved c =
    let next = λ (passed : Passed (graph_of c.args.graph.now) (fixed_of c.args.rule.now) c.args.root c.args.start (c.search.first + 1)).
    on_to c.args.graph.now c.args.rule.now c.args.demands.now c.args.root c.args.last c.requires c.args.start
    c.slot_count-slots.result (c.search.first + 1) c.next_candidate-first-in-search.result (head_in c.pattern_head-head.result)
    c.pattern_head-head.ensures c.slot_count-slots.ensures.0 c.next_candidate-first-in-search.ensures passed in
    let step = c.match_candidate.ensures in
    elim c.if-match_candidate.branch [
      | then-match_candidate+else-loop-k-test w ↦ (
        next (none_left (graph_of c.args.graph.now) (fixed_of c.args.rule.now) c.args.root c.args.last c.search.first c.args.start
            c.all_candidates-candidates.result.slots c.all_candidates-candidates.result.count w.loop-k.k w.loop-k.invariant.0
            w.loop-k-test.false c.search.invariant.0.passed),
        rw w.images-is w.loop-k.invariant.2,
        rw w.found-is w.loop-k.invariant.3,
      )
      | else-match_candidate w ↦ (
        next (root_fails (graph_of c.args.graph.now) (fixed_of c.args.rule.now) c.args.root c.search.first step c.args.start
            c.search.invariant.0.passed w.if-match_candidate.false),
        rw w.images-is (blank-after step.size step.rest c.search.invariant.1),
        rw w.found-is c.search.invariant.2,
      )
    ]

-- ---- no first image is left

pub returns-after-search : goal.returns-after-search
returns-after-search c = rw c.search.invariant.2
    (nothing_found c.args.graph.now c.args.rule.now c.requires.working c.args.start
    (all_passed c.args.graph.now c.args.rule.now c.requires.working c.args.root (c.args.last ∷ []) c.requires.listed c.args.start
    c.search.first c.search.invariant.0.passed (omega (arith, c.search-test.false, c.slot_count-slots.ensures.0))))
