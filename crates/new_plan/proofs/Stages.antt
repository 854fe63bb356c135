-- What the stages of a rewriting at one match come to, as the definition has them, and what each stage asks.
-- Assumes nothing.
use mathlib.Core.Path.{◌≡◌, sym, ◌∙◌, subst, fun_ext}
use mathlib.Core.Bool.{true, false}
use mathlib.Core.List.{List}
use mathlib.Core.Option.{some}
use Prim.Native.Nat.{ℕ, ◌<◌, ◌≤◌}
use native.Mathlib.Omega.{arith}
use borrow.Author.Tests.{le-leb, lt-leb}
use lib.IntN.{ℤ}
use lib.ListN.{length, take}
use Rattle.definitions.specs.Reply.{no_result, no_room, new_cycle, refusal}
use Rattle.definitions.specs.Graph.{unused_place, slot_count, Graph, graph_of, has_cycle}
use Rattle.definitions.specs.Rule.{side_capacity, source_count, target_count, Rule}
use Rattle.definitions.specs.Match.{image_of, read_attribute}
use Rattle.definitions.specs.Rewriting.{target_results, free_slots, has_room}
use Rattle.definitions.specs.Operations.{accepted, turned_down, rewritten}
use Rattle.rule_fields.specs.Fixed.{fixed_of}
use Rattle.laws.proofs.Padded.{taken_at}
use Rattle.laws.proofs.Match.{image-inside, match_inputs}
use Rattle.laws.proofs.Rewriting.{rewritten-unfit, rewritten_full, rewritten-cyclic, rewritten-done}
use Rattle.laws.proofs.Graph.{length-slots}
use Rattle.rule_fields.proofs.Fixed.{length-source, length-target}
use Rattle.graph_check.proofs.Readable.{graph_readable}
use Rattle.rule_sound.proofs.Fixed.{input_plain_of}
use Rattle.rule_sound.proofs.Working.{rule_layered}
use Rattle.encoding.specs.Tables.{Table}
use Rattle.replacement.proofs.Sound.{new_table_lem}
use Rattle.new_slots.specs.Vacant.{Lowest}
use Rattle.new_removal.specs.Removal.{Removable}
use Rattle.vacancies.proofs.Laws.{lowest-places}
use Rattle.redirection.proofs.Laws.{sound_resolvable}
use Rattle.target_attributes.specs.Words.{is_given}
use Rattle.target_attributes.proofs.Laws.{none_given}
use Rattle.new_vertices.specs.Slots.{values_of, fit_results, Prepared}
use Rattle.new_vertices.proofs.Values.{known_values}
use Rattle.new_table.specs.Table.{new_table}
use Rattle.new_plan.specs.Planned.{Matched}
use Rattle.new_plan.proofs.Same.{read_same, room_same, new_same, rewritten_same}

module _ (graph rule images : List ℕ) (is_matched : Matched graph rule images) where
  abbrev g : Graph
  g = graph_of graph

  abbrev r : Rule
  r = fixed_of rule

  -- the map of the match, without the places after it
  abbrev found : List ℕ
  found = take (source_count rule) images

  few : source_count rule ≤ side_capacity
  few = is_matched.working.readable.whole.source

  same : (j : ℕ) → image_of images j ≡ image_of found j
  unfolding image_of
  same j = sym (taken_at unused_place (source_count rule) images (omega (arith, few, is_matched.size)) is_matched.rest j)

  -- every image is a slot
  images-inside : (j : ℕ) → j < source_count rule → image_of images j < slot_count graph
  images-inside j l =
      rw (same j, ← length-slots graph) (image-inside g r found j is_matched.is_match (rw (length-source rule) l))

  -- ---- the stages

  pub removable : Removable graph rule images
  removable =
      let inside : (j : ℕ) → j < source_count rule → j < length r.source = λ j l. rw (length-source rule) l in
      record {
        table = (graph_readable graph is_matched.sound_graph).whole;
        counts = is_matched.sound_graph.counts;
        patterns = record { readable = is_matched.working.readable; layered = rule_layered rule is_matched.working };
        plain = input_plain_of side_capacity r is_matched.working.sound;
        image_size = is_matched.size;
        slots = images-inside;
        apart = λ i j k l e. is_matched.is_match.injective i j (inside i k) (inside j l) (sym (same i) ∙ e ∙ same j);
        inputs = λ j l h. rw (fun_ext same) (match_inputs g r found is_matched.is_match j (inside j l) h);
      }

  pub unfit : is_given (fit_results graph rule images) ≡ false → rewritten g r found ≡ turned_down (refusal no_result)
  unfolding fit_results
  unfit h =
      sym (rewritten_same g r images found same) ∙ rewritten-unfit g r images (none_given (fit_results graph rule images) h)

  module _ (fit : is_given (fit_results graph rule images) ≡ true) where
    abbrev values : List (List ℤ)
    values = values_of (fit_results graph rule images)

    known : target_results (read_attribute g images) r.target ≡ some values
    unfolding fit_results
    known = known_values (fit_results graph rule images) fit

    module _ (count : ℕ) (slots : List ℕ) (places : Lowest (free_slots g r images) count slots) where
      pub full : count < target_count rule → rewritten g r found ≡ turned_down (refusal no_room)
      unfolding has_room
      full l =
          sym (rewritten_same g r images found same)
          ∙ rewritten_full g r images values known
          (lt-leb (length r.target) (length (free_slots g r images)) (omega (arith, places.counted, length-target rule)))

      pub prepared : Prepared graph rule images slots
      prepared = record {
        old_table = graph_readable graph is_matched.sound_graph;
        patterns = is_matched.working.readable;
        evaluable = is_matched.working.evaluable;
        moves = record {
          whole = is_matched.working.readable.whole;
          layered = rule_layered rule is_matched.working;
          resolvable = sound_resolvable rule is_matched.working.sound;
          arrays = record { image_size = is_matched.size; place_size = places.size };
        };
        placed = lowest-places g r images count slots places;
        known = fit;
      }

      module _ (enough : target_count rule ≤ count) where
        room : has_room g r images ≡ true
        unfolding has_room
        room = le-leb (length r.target) (length (free_slots g r images)) (omega (arith, places.counted, length-target rule))

        pub new_table_of : Table (new_table graph rule images)
        unfolding new_table
        new_table_of =
            subst (λ (f : List (List ℤ) → Graph). Table (f values)) (sym (new_same g r images found same))
            (new_table_lem graph r found values side_capacity is_matched.sound_graph is_matched.working.sound is_matched.is_match
            (rw (← read_same g r images found same) known) (rw (← room_same g r images found same) room))

        pub cyclic : has_cycle (new_table graph rule images) ≡ true → rewritten g r found ≡ turned_down (refusal new_cycle)
        unfolding new_table
        cyclic h = sym (rewritten_same g r images found same) ∙ rewritten-cyclic g r images values known room h

        pub done : has_cycle (new_table graph rule images) ≡ false → rewritten g r found ≡ accepted (new_table graph rule images)
        unfolding new_table
        done h = sym (rewritten_same g r images found same) ∙ rewritten-done g r images values known room h
