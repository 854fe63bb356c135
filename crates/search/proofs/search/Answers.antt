-- The demands are what a search asks for, and the outputs are those that the rule lists.
use native.Mathlib.Omega.{arith}
use Rattle.rule_sound.proofs.Working.{output-counts}
use Rattle.matching.proofs.Sound.{sound_setting}
use Rattle.match_look.proofs.Working.{rule_countable}
use Rattle.search.proofs.Outputs.{one_output, two_outputs}
use Rattle.search.proofs.search.Goals as goal

pub count_demands-demands-requires : goal.count_demands-demands-requires
count_demands-demands-requires c = rule_countable c.args.rule.now c.requires.working_rule

pub source_output-root-requires-clause-i_bound : goal.source_output-root-requires-clause-i_bound
source_output-root-requires-clause-i_bound c = (output-counts c.args.rule.now c.requires.working_rule).0

pub search_one-requires : goal.search_one-requires
search_one-requires c = record {
  working = c.requires.working_rule;
  listed = one_output c.args.rule.now c.requires.working_rule c.source_output-root.result c.source_output-root.ensures.0
      (omega (arith, c.output_count.ensures.0, c.if-output_count-eq1.true));
  setting = sound_setting c.args.graph.now c.args.rule.now c.count_demands-demands.result c.requires.sound_graph
      c.requires.working_rule c.count_demands-demands.ensures;
}

pub source_output-last-requires-clause-i_bound : goal.source_output-last-requires-clause-i_bound
source_output-last-requires-clause-i_bound c =
    omega (arith, output-counts c.args.rule.now c.requires.working_rule, c.output_count.ensures.0, c.if-output_count-eq1.false)

pub search_pairs-requires : goal.search_pairs-requires
search_pairs-requires c = record {
  working = c.requires.working_rule;
  listed = two_outputs c.args.rule.now c.requires.working_rule c.source_output-root.result c.source_output-root.ensures.0
      c.source_output-last.result c.source_output-last.ensures.0
      (λ one. c.if-output_count-eq1.false (omega (arith, c.output_count.ensures.0)));
  setting = sound_setting c.args.graph.now c.args.rule.now c.count_demands-demands.result c.requires.sound_graph
      c.requires.working_rule c.count_demands-demands.ensures;
}
