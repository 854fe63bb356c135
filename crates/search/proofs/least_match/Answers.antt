-- Where no slot passes the look there is no match; else a search from the first that does finds what one from the start finds.
use mathlib.Core.Path.{◌≡◌, refl}
use mathlib.Core.List.{List, ◌∷◌}
use Prim.Native.Nat.{ℕ, ◌<◌}
use native.Mathlib.Omega.{arith}
use lib.ListN.{length, get_or, drop}
use Rattle.definitions.specs.Graph.{graph_of}
use Rattle.definitions.specs.Rule.{side_capacity, source_of}
use Rattle.rule_fields.specs.Fixed.{fixed_of}
use Rattle.rule_fields.proofs.Fixed.{length-source}
use Rattle.rule_nodes.specs.Working.{WorkingRule}
use Rattle.rule_sound.proofs.Fixed.{fixing_of}
use Rattle.graph_check.proofs.Readable.{graph_readable}
use Rattle.rule_sound.proofs.Working.{output-counts}
use Rattle.match_look.specs.Head.{Head, head_in, pattern_head}
use Rattle.match_look.specs.Candidate.{passes_look}
use Rattle.match_candidates.specs.Listed.{NextFrom}
use Rattle.match_outputs.proofs.Steps.{Passed, at_next, passed_start, first-inside, all_passed, nothing_found}
use Rattle.search.proofs.Outputs.{some_output_lem}
use Rattle.search.proofs.Skips.{least_skips}
use Rattle.search.proofs.least_match.Goals as goal

-- ---- the first output, and its first candidate

module _ (graph rule : List ℕ) (working : WorkingRule rule) (root : ℕ) (e : root ≡ get_or (fixed_of rule).source_outputs 0 255) where
  listed : (fixed_of rule).source_outputs ≡ root ∷ drop 1 (fixed_of rule).source_outputs
  listed = some_output_lem rule working root e

  inside : root < length (fixed_of rule).source
  inside = first-inside graph rule working root (drop 1 (fixed_of rule).source_outputs) listed

  passed_to : (start next end : ℕ) (h : Head) → h ≡ pattern_head (source_of (fixed_of rule) root)
      → NextFrom (passes_look h (graph_of graph)) start end next → Passed (graph_of graph) (fixed_of rule) root start next
  passed_to start next end h k n =
      (at_next (graph_of graph) (fixed_of rule) root start h inside k refl n
      (passed_start (graph_of graph) (fixed_of rule) root start)).passed

pub source_output-root-requires-clause-i_bound : goal.source_output-root-requires-clause-i_bound
source_output-root-requires-clause-i_bound c = (output-counts c.args.rule.now c.requires.working_rule).0

pub pattern_head-requires-clause-j_bound : goal.pattern_head-requires-clause-j_bound
pattern_head-requires-clause-j_bound c =
    omega (
      arith,
      length-source c.args.rule.now,
      inside c.args.graph.now c.args.rule.now c.requires.working_rule c.source_output-root.result c.source_output-root.ensures.0,
    )

pub next_candidate-first-requires : goal.next_candidate-first-requires
next_candidate-first-requires c = graph_readable c.args.graph.now c.requires.sound_graph

pub slot_count-requires : goal.slot_count-requires
slot_count-requires c = omega (arith, (graph_readable c.args.graph.now c.requires.sound_graph).whole.size)

pub returns-then-slot_count-first : goal.returns-then-slot_count-first
returns-then-slot_count-first c =
    let passed = passed_to c.args.graph.now c.args.rule.now c.requires.working_rule c.source_output-root.result
    c.source_output-root.ensures.0 c.args.start c.next_candidate-first.result _ (head_in c.pattern_head.result)
    c.pattern_head.ensures c.next_candidate-first.ensures in
    nothing_found c.args.graph.now c.args.rule.now c.requires.working_rule c.args.start
    (all_passed c.args.graph.now c.args.rule.now c.requires.working_rule c.source_output-root.result
    (drop 1 (fixed_of c.args.rule.now).source_outputs)
    (listed c.args.graph.now c.args.rule.now c.requires.working_rule c.source_output-root.result c.source_output-root.ensures.0)
    c.args.start c.next_candidate-first.result passed (omega (arith, c.slot_count.ensures.0, c.if-slot_count-first.true)))

pub returns-else-slot_count-first : goal.returns-else-slot_count-first
returns-else-slot_count-first c =
    let passed = passed_to c.args.graph.now c.args.rule.now c.requires.working_rule c.source_output-root.result
    c.source_output-root.ensures.0 c.args.start c.next_candidate-first.result _ (head_in c.pattern_head.result)
    c.pattern_head.ensures c.next_candidate-first.ensures in
    rw (← least_skips (graph_of c.args.graph.now) (fixed_of c.args.rule.now)
    (fixing_of side_capacity (fixed_of c.args.rule.now) c.requires.working_rule.sound) c.source_output-root.result
    (drop 1 (fixed_of c.args.rule.now).source_outputs)
    (listed c.args.graph.now c.args.rule.now c.requires.working_rule c.source_output-root.result c.source_output-root.ensures.0)
    c.args.start c.next_candidate-first.result passed)
    c.search.ensures
