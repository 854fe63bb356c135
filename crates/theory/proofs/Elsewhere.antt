-- What computes that an image is read elsewhere is the meaning, and for every match the counts decide it, for every source vertex alike.
-- Assumes nothing.
use mathlib.Core.Path.{◌≡◌}
use mathlib.Core.Bool.{Bool, true, false, not, ◌&&◌, or-true}
use mathlib.Core.List.{List, []}
use mathlib.Core.Logic.{⊎_elim}
use Prim.Native.Nat.{ℕ, ◌<◌}
use native.Mathlib.Omega.{arith}
use borrow.Author.Tests.{ltb-true, ltb-false, not-true}
use lib.Dec.{ltb}
use lib.ListN.{length}
use Rattle.definitions.specs.Lists.{member}
use Rattle.definitions.specs.Paths.{Reads}
use Rattle.definitions.specs.Graph.{Graph, inputs_of, true_count}
use Rattle.definitions.specs.Rule.{Rule, source_inputs, is_rule_input}
use Rattle.definitions.specs.Match.{image_of, places_of, inner_images, Private, Match}
use Rattle.definitions.specs.ReadElsewhere.{ReadElsewhere, output, reader, is_read_elsewhere}
use Rattle.laws.proofs.Lists.{decided, true_not_false, and_left, and_right, any_below-found, any_below_some}
use Rattle.laws.proofs.Tests.{same_tests}
use Rattle.laws.proofs.Members.{member_mem, mem_member, no_member}
use Rattle.laws.proofs.Graph.{reader-inside}
use Rattle.laws.proofs.Match.{image-inside, match_inputs}
use Rattle.theory.proofs.Inside.{places-reads, private_uses, uses_private}

module _ (g : Graph) (r : Rule) (images : List ℕ) (v : ℕ) where
  -- slot w reads v, and is no image of a source vertex other than a rule input
  abbrev outside : ℕ → Bool
  outside w = member v (inputs_of g w) && not (member w (inner_images r images))

  -- An image that passes the computed test is read elsewhere,
  pub elsewhere_sound : is_read_elsewhere g r images v ≡ true → ReadElsewhere g r images v
  unfolding is_read_elsewhere
  elsewhere_sound h = ⊎_elim
      (λ (t : member v g.outputs ≡ true). output (member_mem v g.outputs t))
      (λ (t : member v g.outputs ≡ false).
      let found = any_below_some outside (length g.slots) (simp t at h) in
      let w = found.0 in
      let other = not-true (member w (inner_images r images))
      (and_right (member v (inputs_of g w)) (not (member w (inner_images r images))) found.2) in
      reader w (member_mem v (inputs_of g w) (and_left (member v (inputs_of g w)) (not (member w (inner_images r images))) found.2))
      (λ m. true_not_false (mem_member m) other))
      (decided (member v g.outputs))

  -- and one that is read elsewhere passes it.
  pub elsewhere_complete : ReadElsewhere g r images v → is_read_elsewhere g r images v ≡ true
  unfolding is_read_elsewhere
  elsewhere_complete (output m) = simp (mem_member m)
  elsewhere_complete (reader w m other) =
      let here : outside w ≡ true = simp (mem_member m, no_member w (inner_images r images) other) in
      simp (any_below-found outside (length g.slots) w (reader-inside g w v m) here, or-true)

  -- It is the opposite of private.
  pub private_nowhere : Private g r images v → ReadElsewhere g r images v → ⊥
  private_nowhere p (output m) = p.no_output m
  private_nowhere p (reader w m other) = other (p.readers w m)

  pub nowhere_private : (ReadElsewhere g r images v → ⊥) → Private g r images v
  nowhere_private none = record {
    no_output = λ m. none (output m);
    readers = λ w m. ⊎_elim
        (λ (t : member w (inner_images r images) ≡ true). member_mem w (inner_images r images) t)
        (λ (t : member w (inner_images r images) ≡ false).
        absurd (none (reader w m (λ k. true_not_false (mem_member k) t))))
        (decided (member w (inner_images r images)));
  }

-- ---- counts

module _ (g : Graph) (r : Rule) (images : List ℕ)
    (plain : (j : ℕ) → is_rule_input r j ≡ true → source_inputs r j ≡ [])
    (inside : (j u : ℕ) → Reads (source_inputs r) j u → u < length r.source)
    (m : Match g r images) (j : ℕ) (l : j < length r.source) where
  -- More places name the image of a source vertex than source input places name the vertex exactly where it is read elsewhere.
  pub elsewhere_counted : ltb (places_of r j) (true_count g (image_of images j)) ≡ is_read_elsewhere g r images (image_of images j)
  unfolding true_count
  elsewhere_counted =
      let v = image_of images j in
      let slot : (i : ℕ) → i < length r.source → image_of images i < length g.slots = λ i k. image-inside g r images i m k in
      let inputs = match_inputs g r images m in
      let own = places-reads g r images plain inside slot m.injective inputs j l in
      same_tests
      (λ t. ⊎_elim
      (λ (e : is_read_elsewhere g r images v ≡ true). e)
      (λ (e : is_read_elsewhere g r images v ≡ false).
      let private = nowhere_private g r images v (λ p. true_not_false (elsewhere_complete g r images v p) e) in
      absurd (omega (
        arith,
        ltb-true (places_of r j) (true_count g v) t,
        private_uses g r images plain inside slot m.injective inputs j l private,
      )))
      (decided (is_read_elsewhere g r images v)))
      (λ t. ⊎_elim
      (λ (e : ltb (places_of r j) (true_count g v) ≡ true). e)
      (λ (e : ltb (places_of r j) (true_count g v) ≡ false).
      let same : true_count g v ≡ places_of r j = omega (arith, ltb-false (places_of r j) (true_count g v) e, own) in
      absurd (private_nowhere g r images v (uses_private g r images plain inside slot m.injective inputs j l same)
      (elsewhere_sound g r images v t)))
      (decided (ltb (places_of r j) (true_count g v))))
