-- What computes that a map is a match is the meaning of a match.
-- Assumes nothing.
use mathlib.Core.Path.{◌≡◌}
use mathlib.Core.Bool.{Bool, true, false, not, ◌||◌, or-true, and-false}
use mathlib.Core.List.{List, map}
use mathlib.Core.Logic.{⊎_elim}
use Prim.Native.Nat.{ℕ}
use native.Mathlib.Omega.{arith}
use borrow.Author.Tests.{eqb-true, eqb-false, eq-eqb, ne_eqb, not-true}
use lib.Dec.{eqb}
use lib.ListN.{length}
use Rattle.definitions.specs.Lists.{all, all_below, all_pairs, member, distinct}
use Rattle.definitions.specs.Fields.{signed}
use Rattle.definitions.specs.Operators.{kind_empty}
use Rattle.definitions.specs.Graph.{unused_place, Slot, Graph, slot_of, inputs_of, is_vertex}
use Rattle.definitions.specs.Rule.{Pattern, Rule, source_of}
use Rattle.definitions.specs.Attributes.{agrees}
use Rattle.definitions.specs.Match.{image_of, read_attribute, must_be_private, inner_images, Takes, Private, Match, takes, is_private, is_match}
use Rattle.laws.proofs.Lists.{decided, true_not_false, needed, and_left, and_right, all_below_at, all_below_every, all-at, all_every}
use Rattle.laws.proofs.Graph.{reader-inside}
use Rattle.laws.proofs.Ranges.{same_lists, same_self}
use Rattle.laws.proofs.Members.{holds, true_holds, member_mem, mem_member, no_member, distinct-places, places-distinct}

-- ---- a pattern takes a slot

takes-sound : (g : Graph) (images : List ℕ) (p : Pattern ℕ) (s : Slot) → takes g images p s ≡ true → Takes g images p s
unfolding takes
takes-sound g images p s h =
    let agree : Bool = all_pairs (λ e word. agrees (read_attribute g images) e (signed word)) p.attributes s.attributes in
    let same : Bool = all_pairs eqb s.inputs (map (image_of images) p.inputs) in
    record {
      kind = eqb-true s.kind p.kind (needed (eqb s.kind p.kind) h (λ f. simp f));
      operator = eqb-true s.operator p.operator (needed (eqb s.operator p.operator) h (λ f. simp (f, and-false)));
      input_count = eqb-true (length s.inputs) (length p.inputs)
          (needed (eqb (length s.inputs) (length p.inputs)) h (λ f. simp (f, and-false)));
      attribute_count = eqb-true (length s.attributes) (length p.attributes)
          (needed (eqb (length s.attributes) (length p.attributes)) h (λ f. simp (f, and-false)));
      attributes = true_holds agree (needed agree h (λ f. simp (f, and-false)));
      inputs = same_lists s.inputs (map (image_of images) p.inputs) (needed same h (λ f. simp (f, and-false)));
    }

takes_complete : (g : Graph) (images : List ℕ) (p : Pattern ℕ) (s : Slot) → Takes g images p s → takes g images p s ≡ true
unfolding takes
takes_complete g images p s t =
    let same : all_pairs eqb s.inputs (map (image_of images) p.inputs) ≡ true =
    rw t.inputs (same_self (map (image_of images) p.inputs)) in
    simp (
      eq-eqb s.kind p.kind t.kind,
      eq-eqb s.operator p.operator t.operator,
      eq-eqb (length s.inputs) (length p.inputs) t.input_count,
      eq-eqb (length s.attributes) (length p.attributes) t.attribute_count,
      holds (all_pairs (λ e word. agrees (read_attribute g images) e (signed word)) p.attributes s.attributes) t.attributes,
      same,
    )

-- ---- an image is private

-- slot w does not read v, or it is the image of a source vertex that is no rule input
abbrev reader : Graph → Rule → List ℕ → ℕ → ℕ → Bool
reader g r images v w = not (member v (inputs_of g w)) || member w (inner_images r images)

module _ (g : Graph) (r : Rule) (images : List ℕ) (v : ℕ) where
  pub private_sound : is_private g r images v ≡ true → Private g r images v
  unfolding is_private
  private_sound h =
      let n : ℕ = length g.slots in
      let unnamed : not (member v g.outputs) ≡ true = and_left (not (member v g.outputs)) (all_below (reader g r images v) n) h in
      let every : all_below (reader g r images v) n ≡ true = and_right (not (member v g.outputs)) (all_below (reader g r images v) n) h in
      record {
        no_output = λ m. true_not_false (mem_member m) (not-true (member v g.outputs) unnamed);
        readers = λ w m. member_mem w (inner_images r images)
            (simp (mem_member m) at (all_below_at (reader g r images v) n w every (reader-inside g w v m)));
      }

  pub private_complete : Private g r images v → is_private g r images v ≡ true
  unfolding is_private
  private_complete p =
      let every : all_below (reader g r images v) (length g.slots) ≡ true =
      all_below_every (reader g r images v) (length g.slots) (λ w l.
      ⊎_elim (λ (t : member v (inputs_of g w) ≡ true).
      simp (mem_member (p.readers w (member_mem v (inputs_of g w) t)), or-true))
      (λ (t : member v (inputs_of g w) ≡ false). simp t)
      (decided (member v (inputs_of g w)))) in
      simp (no_member v g.outputs p.no_output, every)

-- ---- the theorems

-- source vertex j is the wildcard, or its pattern takes its image
abbrev taken : Graph → Rule → List ℕ → ℕ → Bool
taken g r images j = eqb (source_of r j).kind kind_empty || takes g images (source_of r j) (slot_of g (image_of images j))

-- nothing asks that the image of source vertex j be private, or it is
abbrev kept : Graph → Rule → List ℕ → ℕ → Bool
kept g r images j = not (must_be_private r j) || is_private g r images (image_of images j)

module _ (g : Graph) (r : Rule) (images : List ℕ) where
  -- A map that passes the computed test meets every condition of a match.
  pub test-sound : is_match g r images ≡ true → Match g r images
  unfolding is_match image_of
  test-sound h =
      let n : ℕ = length r.source in
      let size : length images ≡ n = eqb-true (length images) n (needed (eqb (length images) n) h (λ f. simp f)) in
      let vertices : all (is_vertex g) images ≡ true = needed (all (is_vertex g) images) h (λ f. simp (f, and-false)) in
      let apart : distinct images ≡ true = needed (distinct images) h (λ f. simp (f, and-false)) in
      let takings : all_below (taken g r images) n ≡ true = needed (all_below (taken g r images) n) h (λ f. simp (f, and-false)) in
      let keepings : all_below (kept g r images) n ≡ true = needed (all_below (kept g r images) n) h (λ f. simp (f, and-false)) in
      record {
        size = size;
        vertices = λ j l. true_holds (is_vertex g (image_of images j)) (all-at (is_vertex g) unused_place images j vertices (omega arith));
        injective = λ i j k l e. distinct-places images unused_place i j apart (omega arith) (omega arith) e;
        takes = λ j l other. takes-sound g images (source_of r j) (slot_of g (image_of images j))
            (simp (ne_eqb (source_of r j).kind kind_empty other) at (all_below_at (taken g r images) n j takings l));
        interior = λ j l t. private_sound g r images (image_of images j)
            (simp (holds (must_be_private r j) t) at (all_below_at (kept g r images) n j keepings l));
      }

  -- A map that meets every condition passes the test. So the test decides what a match is.
  pub test_complete : Match g r images → is_match g r images ≡ true
  unfolding is_match image_of
  test_complete m =
      let n : ℕ = length r.source in
      let vertices : all (is_vertex g) images ≡ true = all_every (is_vertex g) unused_place images
      (λ j l. holds (is_vertex g (image_of images j)) (m.vertices j (omega (arith, m.size)))) in
      let apart : distinct images ≡ true = places-distinct images unused_place
      (λ i j k l e. m.injective i j (omega (arith, m.size)) (omega (arith, m.size)) e) in
      let takings : all_below (taken g r images) n ≡ true = all_below_every (taken g r images) n (λ j l.
      ⊎_elim (λ (t : eqb (source_of r j).kind kind_empty ≡ true). simp t)
      (λ (t : eqb (source_of r j).kind kind_empty ≡ false).
      simp (takes_complete g images (source_of r j) (slot_of g (image_of images j)) (m.takes j l (eqb-false (source_of r j).kind kind_empty t)), or-true))
      (decided (eqb (source_of r j).kind kind_empty))) in
      let keepings : all_below (kept g r images) n ≡ true = all_below_every (kept g r images) n (λ j l.
      ⊎_elim (λ (t : must_be_private r j ≡ true).
      simp (private_complete g r images (image_of images j) (m.interior j l (true_holds (must_be_private r j) t)), or-true))
      (λ (t : must_be_private r j ≡ false). simp t)
      (decided (must_be_private r j))) in
      simp (eq-eqb (length images) n m.size, vertices, apart, takings, keepings)
