-- What soundness of a graph block gives to those that read it: the layout, and that inputs and outputs name slots.
-- Assumes nothing.
use mathlib.Core.Path.{◌≡◌}
use mathlib.Core.Bool.{false}
use mathlib.Core.List.{List}
use Prim.Native.Nat.{ℕ, ◌<◌}
use lib.ListN.{length, get_or}
use Rattle.definitions.specs.Graph.{unused_place, graph_version, slot_count, graph_of, inputs_of, is_vertex, bad_record, bad_inputs, SoundAs, SoundGraph}
use Rattle.laws.proofs.Lists.{lowest-whole, all_members}
use Rattle.laws.proofs.Members.{mem-at}
use Rattle.laws.proofs.Graph.{vertex-inside, length-slots, length-outputs}
use Rattle.graph_fields.specs.Layout.{ReadableGraph, Closed, OutputsNamed}
use Rattle.graph_check.proofs.Laws.{whole, readable, closed}

module _ (version : ℕ) (block : List ℕ) (sound : SoundAs version block) where
  good_record : (k : ℕ) → k < slot_count block → bad_record version block k ≡ false
  unfolding bad_record
  good_record k l = simp (sound.records k l)

  good-inputs : (k : ℕ) → k < slot_count block → bad_inputs (graph_of block) k ≡ false
  unfolding bad_inputs
  good-inputs k l = simp (all_members (is_vertex (graph_of block)) (inputs_of (graph_of block) k) (λ v m. sound.inputs k v m))

  pub readable_as : ReadableGraph block
  readable_as = readable version block (whole version block sound.header)
      (lowest-whole (bad_record version block) (slot_count block) good_record)

  pub closed_as : Closed block
  closed_as = closed block readable_as (lowest-whole (bad_inputs (graph_of block)) (slot_count block) good-inputs)

  pub outputs_as : OutputsNamed block
  outputs_as = record {
    named = λ i l.
        let inside : i < length (graph_of block).outputs = rw (length-outputs block) l in
        rw (length-slots block) at (vertex-inside (graph_of block) (get_or (graph_of block).outputs i unused_place)
        (sound.outputs (get_or (graph_of block).outputs i unused_place) (mem-at (graph_of block).outputs i unused_place inside)));
  }

-- ---- of version 2

module _ (block : List ℕ) (sound : SoundGraph block) where
  pub graph_readable : ReadableGraph block
  graph_readable = readable_as graph_version block sound.form

  pub graph_closed : Closed block
  graph_closed = closed_as graph_version block sound.form

  pub graph-outputs : OutputsNamed block
  graph-outputs = outputs_as graph_version block sound.form
