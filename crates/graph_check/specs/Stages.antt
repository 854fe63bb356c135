-- What is known of a block in which header, records and names are right.
-- Assumes nothing.
use Rattle.std.specs.Prelude.{◌≡◌, true, List, ℕ, ◌≤◌}
use Rattle.definitions.specs.Lists.{lowest}
use Rattle.definitions.specs.Reply.{Reply, judged}
use Rattle.definitions.specs.Graph.{slot_count, output_count, graph_of, header_fits, bad_record, bad_inputs, bad_output, name_faults}

-- what judging these gives
abbrev pub early_reply : ℕ → List ℕ → Reply
early_reply version block = judged (name_faults version block)

pub record Passed (version : ℕ) (block : List ℕ) : Type 0 where
  pub header : header_fits version block ≡ true
  pub records : slot_count block ≤ lowest (bad_record version block) (slot_count block)
  pub inputs : slot_count block ≤ lowest (bad_inputs (graph_of block)) (slot_count block)
  pub outputs : output_count block ≤ lowest (bad_output (graph_of block)) (output_count block)
