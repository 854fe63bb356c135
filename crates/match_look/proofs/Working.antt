-- What matching asks of a rule's bytes follows from their soundness.
-- Assumes nothing.
use mathlib.Core.List.{List}
use Prim.Native.Nat.{ℕ}
use Rattle.definitions.specs.Rule.{side_capacity}
use Rattle.rule_fields.specs.Fixed.{fixed_of}
use Rattle.rule_fields.proofs.Fixed.{length-source}
use Rattle.rule_nodes.specs.Working.{WorkingRule}
use Rattle.rule_sound.proofs.Fixed.{input_plain_of, bare_of, below_of}
use Rattle.rule_sound.proofs.Working.{rule_layered}
use Rattle.rule_uses.specs.Countable.{CountableRule}
use Rattle.match_look.specs.Setting.{Matchable}

module _ (block : List ℕ) (working : WorkingRule block) where
  pub rule_matchable : Matchable block
  rule_matchable = record {
    readable = working.readable;
    layered = rule_layered block working;
    evaluable = working.evaluable;
    plain = input_plain_of side_capacity (fixed_of block) working.sound;
    bare = bare_of side_capacity (fixed_of block) working.sound;
    below = λ j i l m. below_of side_capacity (fixed_of block) working.sound j i (rw (length-source block) l) m;
  }

  pub rule_countable : CountableRule block
  rule_countable = record { readable = working.readable; layered = rule_layered block working }
