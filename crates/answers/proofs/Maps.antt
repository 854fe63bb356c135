-- A map block, read back: the images of the source vertices, and 65535 from there on.
-- Assumes nothing.
use mathlib.Core.Path.{◌≡◌, sym, ap, ◌∙◌}
use mathlib.Core.List.{List}
use mathlib.Core.Option.{some}
use Prim.Native.Nat.{ℕ, ◌*◌, ◌<◌, ◌≤◌}
use native.Mathlib.Omega.{arith}
use lib.ListN.{length, get_or-eq_default}
use lib.Seq.{ext_get_or}
use Rattle.definitions.specs.Fields.{u16_at, u16_bytes}
use Rattle.definitions.specs.Graph.{unused_place, graph_version, graph_of, SoundGraph}
use Rattle.definitions.specs.Rule.{side_limit, source_count, rule_of, SoundRule}
use Rattle.definitions.specs.Match.{image_of, Match, least_match}
use Rattle.definitions.specs.Operations.{map_places, map_bytes, map_block, images_in}
use Rattle.laws.proofs.Graph.{length-slots, few_slots}
use Rattle.laws.proofs.Rule.{length-source, few_sources_lem}
use Rattle.laws.proofs.Match.{images-length, images-at, image-inside}
use Rattle.theory.proofs.Fixing.{sound_fixing}
use Rattle.theory.proofs.Least.{least_match_lem, search_least}
use Rattle.encoding.proofs.Numbers.{length_u16, u16_back}
use Rattle.encoding.proofs.Places.{length-places, place_at}
use Rattle.answers.specs.Statements.{WritesLeast}

-- ---- the map block of images that two bytes hold

module _ (found : List ℕ) (fits : length found ≤ map_places) where
  map-length : length (map_block found) ≡ map_bytes
  unfolding map_block
  map-length = length-places u16_bytes 2 map_places unused_place found length_u16 fits

  map_at : (j : ℕ) → j < map_places → image_of found j < 65536 → u16_at (map_block found) (2 * j) ≡ image_of found j
  unfolding map_block image_of
  map_at j l s =
      u16_back (map_block found) (2 * j) (image_of found j)
      (λ i. place_at u16_bytes 2 map_places unused_place found length_u16 fits j i l) s

  -- past the images stands 65535
  map-rest : (j : ℕ) → length found ≤ j → j < map_places → u16_at (map_block found) (2 * j) ≡ unused_place
  unfolding image_of
  map-rest j past l =
      let none : image_of found j ≡ unused_place = get_or-eq_default found unused_place past in
      map_at j l (omega arith) ∙ none

  -- and before it the images themselves
  map-images : ((j : ℕ) → j < length found → image_of found j < 65536) → images_in (map_block found) (length found) ≡ found
  unfolding image_of
  map-images small =
      ext_get_or unused_place (images_in (map_block found) (length found)) found (images-length (map_block found) (length found))
      (λ j l.
      let inside : j < length found = rw (images-length (map_block found) (length found)) at l in
      images-at (map_block found) (length found) j unused_place inside ∙ map_at j (omega arith) (small j inside))

-- ---- the map block of the least match

module _ (graph rule : List ℕ) (start : ℕ) (images : List ℕ) (sound : SoundGraph graph) (sound_rule : SoundRule rule)
    (least : least_match (graph_of graph) (rule_of rule) start ≡ some images) where
  pub least_is : Match (graph_of graph) (rule_of rule) images
  least_is = (least_match_lem (graph_of graph) (rule_of rule) (sound_fixing rule sound_rule) start images least).is_match

  least_length : length images ≡ source_count rule
  least_length = least_is.size ∙ length-source rule

  least_fits : length images ≤ map_places
  least_fits = omega (arith, least_length, few_sources_lem rule side_limit sound_rule.header)

  -- an image is a slot, so below the slot count, which is at most 512
  least_small : (j : ℕ) → j < length images → image_of images j < 65536
  least_small j l =
      omega (
        arith,
        image-inside (graph_of graph) (rule_of rule) images j least_is (rw least_is.size at l),
        length-slots graph,
        few_slots graph graph_version sound.form.header,
      )

  -- a map that holds its block
  module _ (after : List ℕ) (written : after ≡ map_block images) where
    -- its first S numbers are the images
    pub least_told : least_match (graph_of graph) (rule_of rule) start ≡ some (images_in after (source_count rule))
    least_told =
        let back : images_in after (source_count rule) ≡ images =
        ap (λ (m : List ℕ). images_in m (source_count rule)) written
        ∙ ap (images_in (map_block images)) (sym least_length)
        ∙ map-images images least_fits least_small in
        least ∙ ap some (sym back)

    -- the others are 65535
    least_rest : (j : ℕ) → source_count rule ≤ j → j < map_places → u16_at after (2 * j) ≡ unused_place
    least_rest j past l =
        ap (λ (m : List ℕ). u16_at m (2 * j)) written ∙ map-rest images least_fits j (omega (arith, least_length)) l

    least_bytes : length after ≡ map_bytes
    least_bytes = ap length written ∙ map-length images least_fits

    -- so it is the map of the least match
    pub least_written : WritesLeast graph rule start after
    least_written = record {
      least = search_least (graph_of graph) (rule_of rule) (sound_fixing rule sound_rule) start (images_in after (source_count rule)) least_told;
      rest = least_rest;
      size = least_bytes;
    }
