-- The new table follows every condition of a sound graph but the one about cycles: its slots one by one (Slots), and what its places
-- name (Table).
-- Assumes nothing.
use mathlib.Core.Path.{◌≡◌, ap, ◌∙◌}
use mathlib.Core.Bool.{true}
use mathlib.Core.List.{List}
use mathlib.Core.Option.{some}
use Prim.Native.Nat.{ℕ, ◌<◌}
use lib.IntN.{ℤ}
use lib.ListN.{length, length-map}
use Rattle.definitions.specs.Fields.{Bytes}
use Rattle.definitions.specs.Graph.{graph_version, slot_count, output_count, Graph, graph_of, slot_of, SoundGraph}
use Rattle.definitions.specs.Rule.{Rule}
use Rattle.definitions.specs.FixedRule.{SoundFixed}
use Rattle.definitions.specs.Match.{read_attribute, Match}
use Rattle.definitions.specs.Rewriting.{target_results, has_room, redirect, new_slot, new_graph}
use Rattle.laws.proofs.Graph.{length-slots, length-outputs, slots-within, outputs-within}
use Rattle.laws.proofs.Rewriting.{new-length, new-slot-at}
use Rattle.encoding.specs.Tables.{slot_fits, Table, Words}
use Rattle.replacement.proofs.Site.{site}
use Rattle.replacement.proofs.Table.{new-inputs, new-outputs}
use Rattle.replacement.proofs.Slots.{new_shapes, new-words}

module _ (graph : List ℕ) (r : Rule) (images : List ℕ) (values : List (List ℤ)) (limit : ℕ) (sound : SoundGraph graph)
    (sound_rule : SoundFixed limit r) (is_match : Match (graph_of graph) r images)
    (found : target_results (read_attribute (graph_of graph) images) r.target ≡ some values)
    (room : has_room (graph_of graph) r images ≡ true) where
  abbrev new : Graph
  new = new_graph (graph_of graph) r images values

  slots-size : length new.slots ≡ slot_count graph
  slots-size = new-length (graph_of graph) r images values ∙ length-slots graph

  outputs-size : length new.outputs ≡ output_count graph
  unfolding new_graph
  outputs-size = length-map (graph_of graph).outputs (redirect (graph_of graph) r images) ∙ length-outputs graph

  slot_at : (k : ℕ) → k < length new.slots → slot_of new k ≡ new_slot (graph_of graph) r images values k
  slot_at k l =
      new-slot-at (graph_of graph) r images values k (rw (new-length (graph_of graph) r images values) at l)

  pub new_table_lem : Table new
  new_table_lem = record {
    size = rw slots-size (slots-within graph graph_version sound.form.header);
    output_count = rw outputs-size (outputs-within graph graph_version sound.form.header);
    shapes = λ k l. ap slot_fits (slot_at k l) ∙ new_shapes graph r images values limit sound sound_rule found k (rw slots-size at l);
    inputs = new-inputs (graph_of graph) r images values (site limit r sound_rule graph images sound is_match room);
    outputs = new-outputs (graph_of graph) r images values (site limit r sound_rule graph images sound is_match room);
  }

  pub new_table_words : Bytes graph → Words new
  new_table_words bytes k l w m =
      new-words graph r images values limit sound sound_rule bytes found k (rw slots-size at l) w
      (rw (slot_at k l) at m)
