-- A map of all source vertices is a match where the images that must be private have the right number of uses.
-- Assumes nothing.
use mathlib.Core.Path.{◌≡◌, sym, ap, ◌∙◌, fun_ext}
use mathlib.Core.Bool.{true, false}
use mathlib.Core.List.{List, map}
use Prim.Native.Nat.{ℕ, ◌<◌, ◌≤◌}
use native.Mathlib.Omega.{arith}
use lib.ListN.{length, take}
use lib.Seq.{length-take-le}
use Rattle.definitions.specs.Operators.{kind_empty}
use Rattle.definitions.specs.Graph.{unused_place, Graph, slot_of, inputs_of, is_vertex, true_count}
use Rattle.definitions.specs.Rule.{side_capacity, Rule, source_of, source_inputs, is_rule_input}
use Rattle.definitions.specs.Match.{image_of, must_be_private, Takes, Match}
use Rattle.laws.proofs.Lists.{true_not_false}
use Rattle.laws.proofs.Members.{holds, true_holds}
use Rattle.laws.proofs.Graph.{vertex-inside}
use Rattle.laws.proofs.Rule.{source-reader, wild_input}
use Rattle.laws.proofs.Padded.{taken_at}
use Rattle.theory.proofs.Inside.{uses_private}
use Rattle.match_images.specs.Partial.{Partial}
use Rattle.match_look.proofs.Candidates.{Formed}
use Rattle.match_images.proofs.Maps.{takes_same}

module _ (g : Graph) (r : Rule) (f : Formed r) (images : List ℕ) (p : Partial g r (length r.source) images)
    (rest : (i : ℕ) → length r.source ≤ i → image_of images i ≡ unused_place) (fits : length r.source ≤ side_capacity) where
  abbrev short : List ℕ
  short = take (length r.source) images

  -- from the last source vertex on, the array holds what stands past the end of a list
  short-image : (i : ℕ) → image_of short i ≡ image_of images i
  unfolding image_of
  short-image i = taken_at unused_place (length r.source) images (omega (arith, p.size)) rest i

  pub short-images : image_of short ≡ image_of images
  short-images = fun_ext short-image

  takes : (j : ℕ) → j < length r.source → ((source_of r j).kind ≡ kind_empty → ⊥)
      → Takes g short (source_of r j) (slot_of g (image_of short j))
  takes j l other =
      rw (short-image j)
      (takes_same g images short r j (slot_of g (image_of images j)) f l (λ u k. sym (short-image u)) (p.takes j l other))

  inner-inputs : (j : ℕ) → j < length r.source → is_rule_input r j ≡ false
      → inputs_of g (image_of short j) ≡ map (image_of short) (source_inputs r j)
  inner-inputs j l inner = (takes j l (λ e. true_not_false (wild_input r j l e) inner)).inputs

  apart : (i j : ℕ) → i < length r.source → j < length r.source → image_of short i ≡ image_of short j → i ≡ j
  apart i j k l e = p.injective i j k l (sym (short-image i) ∙ e ∙ short-image j)

  vertex : (j : ℕ) → j < length r.source → is_vertex g (image_of short j) ≡ true
  vertex j l = rw (short-image j) (p.vertices j l)

  pub partial_match : Match g r short
  partial_match = record {
    size = length-take-le (length r.source) images (omega (arith, p.size));
    vertices = λ j l. true_holds (is_vertex g (image_of short j)) (vertex j l);
    injective = apart;
    takes = takes;
    interior = λ j l t. uses_private g r short f.plain (λ w u m. omega (arith, f.lower w u m, source-reader r w u m))
        (λ i k. vertex-inside g (image_of short i) (vertex i k)) apart inner-inputs j l
        (ap (true_count g) (short-image j) ∙ p.demands j l (holds (must_be_private r j) t));
  }
