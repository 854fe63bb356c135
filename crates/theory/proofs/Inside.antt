-- Counts decide whether an image is private. The places that name the image of j are those in the inner images, which are as many as
-- the places of the source that name j, and those in other slots. There are none of the latter exactly where the image is private.
-- Assumes nothing.
use mathlib.Core.Path.{◌≡◌, refl, ap, ◌∙◌}
use mathlib.Core.Bool.{Bool, true, false, cond, not}
use mathlib.Core.List.{List, [], map}
use mathlib.Core.Logic.{⊎_elim}
use Prim.Native.Nat.{ℕ, ◌+◌, ◌<◌, ◌≤◌}
use native.Mathlib.Omega.{arith}
use lib.ListN.{length}
use Rattle.definitions.specs.Lists.{filter, member, range, count, total}
use Rattle.definitions.specs.Paths.{Reads}
use Rattle.definitions.specs.Graph.{Graph, inputs_of, reads_of, true_count}
use Rattle.definitions.specs.Rule.{Rule, source_inputs, is_rule_input}
use Rattle.definitions.specs.Match.{image_of, places_of, images_where, inner_images, Private}
use Rattle.laws.proofs.Lists.{decided, true_not_false}
use Rattle.laws.proofs.Graph.{reader-inside}
use Rattle.laws.proofs.Members.{member_mem, mem_member}
use Rattle.laws.proofs.Match.{inner-distinct, inner_below}
use Rattle.laws.proofs.Sums.{count_none, count_some, count_map, total_same, total_none, total_part, sum_over, sum_map, sum_filter, sum_range, total_parts}

module _ (g : Graph) (r : Rule) (images : List ℕ)
    (plain : (j : ℕ) → is_rule_input r j ≡ true → source_inputs r j ≡ [])
    (inside : (j u : ℕ) → Reads (source_inputs r) j u → u < length r.source)
    (vertex : (j : ℕ) → j < length r.source → image_of images j < length g.slots)
    (apart : (i j : ℕ) → i < length r.source → j < length r.source → image_of images i ≡ image_of images j → i ≡ j)
    (inputs : (j : ℕ) → j < length r.source → is_rule_input r j ≡ false
    → inputs_of g (image_of images j) ≡ map (image_of images) (source_inputs r j)) where
  -- how often slot w names the image of j
  abbrev names : ℕ → ℕ → ℕ
  names j w = count (image_of images j) (inputs_of g w)

  -- the same, of the slots that are no inner images
  abbrev other_names : ℕ → ℕ → ℕ
  other_names j w = cond (member w (inner_images r images)) 0 (names j w)

  module _ (j : ℕ) (l : j < length r.source) where
    -- the image of a source vertex names the image of j as often as the vertex names j, and counts where it is inner
    same_names : (i : ℕ) → i < length r.source
        → cond (not (is_rule_input r i)) (names j (image_of images i)) 0 ≡ count j (source_inputs r i)
    same_names i k = ⊎_elim
        (λ (t : is_rule_input r i ≡ true). simp (t, plain i t) (unfold count in refl))
        (λ (t : is_rule_input r i ≡ false).
        simp t (ap (count (image_of images j)) (inputs i k t)
        ∙ count_map (image_of images) j (source_inputs r i) (λ u m. apart j u l (inside i u m))))
        (decided (is_rule_input r i))

    inner-names : sum_over (names j) (inner_images r images) ≡ places_of r j
    unfolding inner_images images_where places_of
    inner-names =
        let n : ℕ = length r.source in
        let inner : ℕ → Bool = λ i. not (is_rule_input r i) in
        sum_map (names j) (image_of images) (filter inner (range 0 n))
        ∙ sum_filter (λ i. names j (image_of images i)) inner (range 0 n)
        ∙ sum_range (λ i. cond (inner i) (names j (image_of images i)) 0) n
        ∙ total_same (λ i. cond (inner i) (names j (image_of images i)) 0) (λ i. count j (source_inputs r i)) n same_names

    -- the places that name the image of j
    reads_parts : reads_of g (image_of images j) ≡ places_of r j + total (other_names j) (length g.slots)
    unfolding reads_of
    reads_parts = omega (
      arith,
      total_parts (names j) (length g.slots) (inner_images r images) (inner-distinct r images apart)
          (inner_below r images (length g.slots) vertex),
      inner-names,
    )

    -- The source's own places are always among them.
    pub places-reads : places_of r j ≤ reads_of g (image_of images j)
    places-reads = omega (arith, reads_parts)

    -- Where the image is private there are no others,
    pub private_uses : Private g r images (image_of images j) → true_count g (image_of images j) ≡ places_of r j
    unfolding true_count
    private_uses p =
        let none : total (other_names j) (length g.slots) ≡ 0 = total_none (other_names j) (length g.slots) (λ w k. ⊎_elim
        (λ (t : member w (inner_images r images) ≡ true). simp t)
        (λ (t : member w (inner_images r images) ≡ false).
        simp t (count_none (image_of images j) (inputs_of g w) (λ m. true_not_false (mem_member (p.readers w m)) t)))
        (decided (member w (inner_images r images)))) in
        omega (arith, reads_parts, none, count_none (image_of images j) g.outputs p.no_output)

    -- and where there are no others it is private.
    pub uses_private : true_count g (image_of images j) ≡ places_of r j → Private g r images (image_of images j)
    unfolding true_count
    uses_private e = record {
      no_output = λ m. omega (arith, reads_parts, e, count_some m);
      readers = λ w m. ⊎_elim
          (λ (t : member w (inner_images r images) ≡ true). member_mem w (inner_images r images) t)
          (λ (t : member w (inner_images r images) ≡ false).
          let counted : other_names j w ≡ names j w = simp t in
          absurd (omega (
            arith,
            reads_parts,
            e,
            count_some m,
            counted,
            total_part (other_names j) (length g.slots) w (reader-inside g w (image_of images j) m),
          )))
          (decided (member w (inner_images r images)));
    }
