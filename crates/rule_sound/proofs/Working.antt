-- What those that read a rule's bytes take from its soundness: what source inputs and outputs name, and how many outputs there are.
-- Assumes nothing.
use mathlib.Core.List.{List}
use Prim.Native.Nat.{ℕ, ◌≤◌}
use lib.ListN.{get_or}
use Rattle.definitions.specs.Rule.{rule_output_limit, rule_output_count, source_inputs}
use Rattle.laws.proofs.Members.{mem-at}
use Rattle.rule_fields.specs.Fixed.{fixed_of}
use Rattle.rule_fields.specs.Layout.{Layered}
use Rattle.rule_fields.proofs.Fixed.{length-source, length-source-outputs}
use Rattle.rule_nodes.specs.Working.{WorkingRule}
use Rattle.rule_sound.proofs.Sound.{lower_of}

module _ (block : List ℕ) (working : WorkingRule block) where
  pub rule_layered : Layered block
  rule_layered =
      let r = fixed_of block in
      record {
        lower = λ j i l m. lower_of r working.sound.lower_inputs j (get_or (source_inputs r j) i 255) (mem-at (source_inputs r j) i 255 m);
        outputs = λ i l. rw (length-source block) at (working.sound.outputs_inside (get_or r.source_outputs i 255)
            (mem-at r.source_outputs i 255 (rw (length-source-outputs block) l)));
      }

  -- one output or two
  pub output-counts : (1 ≤ rule_output_count block) × (rule_output_count block ≤ rule_output_limit)
  output-counts = (rw (length-source-outputs block) at working.sound.some_output, working.readable.whole.outputs)
