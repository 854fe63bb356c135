-- The attempt decides whether the map is a match.
use mathlib.Core.Path.{refl, ◌∙◌}
use Rattle.rule_fields.specs.Fixed.{fixed_of}
use Rattle.matching.proofs.Sound.{sound_setting}
use Rattle.match_look.proofs.Working.{rule_countable}
use Rattle.match_outputs.proofs.Steps.{blank-start}
use Rattle.match_map.proofs.Laws.{attempt_decides, no_match_lem}
use Rattle.match_map.proofs.is_match.Goals as goal

pub count_demands-demands-requires : goal.count_demands-demands-requires
count_demands-demands-requires c = rule_countable c.args.rule.now c.requires.working_rule

pub attempt-requires : goal.attempt-requires
attempt-requires c = record {
  working = c.requires.working_rule;
  setting = sound_setting c.args.graph.now c.args.rule.now c.count_demands-demands.result c.requires.sound_graph
      c.requires.working_rule c.count_demands-demands.ensures;
  enough = c.requires.map_fits.enough;
  space = refl;
}

pub returns-else-attempt : goal.returns-else-attempt
returns-else-attempt c =
    c.if-attempt.false ∙ no_match_lem c.args.graph.now c.args.rule.now c.args.map.now c.requires.working_rule c.requires.map_fits
    (blank-start (fixed_of c.args.rule.now)) c.attempt.ensures c.if-attempt.false

pub returns-then-attempt : goal.returns-then-attempt
returns-then-attempt c =
    c.holds_images.ensures
    ∙ attempt_decides c.args.graph.now c.args.rule.now c.args.map.now c.requires.working_rule c.requires.map_fits
    (blank-start (fixed_of c.args.rule.now)) c.attempt.ensures c.if-attempt.true
