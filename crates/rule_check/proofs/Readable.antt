-- A sound block of version 1 is a rule on which matching and rewriting work as it is lent.
-- Assumes nothing.
use mathlib.Core.Path.{◌≡◌, subst, sym}
use mathlib.Core.Bool.{false}
use mathlib.Core.List.{List}
use Prim.Native.Nat.{ℕ, ◌+◌, ◌≤◌}
use native.Mathlib.Omega.{arith}
use Rattle.definitions.specs.Fields.{byte_at}
use Rattle.definitions.specs.Rule.{side_limit, side_capacity, vertex_at, Rule, SoundRule, rule_of}
use Rattle.definitions.specs.FixedRule.{SoundFixed}
use Rattle.laws.proofs.Rule.{use_inside}
use Rattle.rule_fields.specs.Fixed.{is_expanded, fixed_of}
use Rattle.rule_fields.specs.Layout.{ReadableRule}
use Rattle.rule_fields.proofs.Fixed.{lent_rule_lem, lent_nodes, lent_attribute}
use Rattle.rule_nodes.specs.Working.{Evaluable, WorkingRule}
use Rattle.rule_nodes.proofs.Operands.{lent_good}
use Rattle.rule_records.proofs.Laws.{pattern-inputs, pattern-attributes}
use Rattle.rule_sound.proofs.Sound.{sound-block}
use Rattle.rule_check.proofs.Laws.{header_lent, whole}

-- a greater limit lets more rules pass
pub sound_more : (limit more : ℕ) (r : Rule) → limit ≤ more → SoundFixed limit r → SoundFixed more r
sound_more limit more r l s = record {
  some_source = s.some_source;
  few_sources = omega (arith, s.few_sources);
  few_targets = omega (arith, s.few_targets);
  some_output = s.some_output;
  few_outputs = s.few_outputs;
  same_count = s.same_count;
  outputs_inside = s.outputs_inside;
  source_shapes = s.source_shapes;
  target_shapes = s.target_shapes;
  lower_inputs = s.lower_inputs;
  named_inputs = s.named_inputs;
  order = s.order;
  outputs = s.outputs;
  connection = s.connection;
  named_outputs = s.named_outputs;
  names = s.names;
  source_uses = s.source_uses;
  target_uses = s.target_uses;
}

module _ (block : List ℕ) (sound : SoundRule block) where
  pub rule_lent : is_expanded block ≡ false
  rule_lent = header_lent block sound.header

  -- what is read is the rule of the block
  pub rule_same : fixed_of block ≡ rule_of block
  rule_same = lent_rule_lem block rule_lent

  rule_readable : ReadableRule block
  rule_readable = record {
    whole = (whole block sound.header).whole;
    inputs = λ v l. pattern-inputs block (vertex_at v) (sound.patterns v l);
    attributes = λ v l. pattern-attributes block (vertex_at v) (sound.patterns v l);
  }

  rule_evaluable : Evaluable block
  rule_evaluable = record {
    nodes = λ k l. lent_good block k rule_lent (sound.nodes k (rw (lent_nodes block rule_lent) at l));
    uses = λ v i l m. rw (lent_attribute block rule_lent v i, lent_nodes block rule_lent)
        (use_inside block v (byte_at block (vertex_at v + 10 + i)) (sound.uses v i l m));
  }

  pub working : WorkingRule block
  working = record {
    readable = rule_readable;
    evaluable = rule_evaluable;
    sound = subst (SoundFixed side_capacity) (sym rule_same) (sound_more side_limit side_capacity (rule_of block) (omega arith) (sound-block block sound));
  }
