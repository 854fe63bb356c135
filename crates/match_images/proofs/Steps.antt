-- Steps: one that adds nothing, one that fails, and two that follow each other. With these, what matching a vertex and matching its
-- inputs give.
-- Assumes nothing.
use mathlib.Core.Path.{◌≡◌, refl, sym, ◌∙◌, subst}
use mathlib.Core.Bool.{Bool, true, false}
use mathlib.Core.List.{List, [], ◌∷◌}
use mathlib.Core.Logic.{⊎_elim}
use Prim.Native.Nat.{ℕ, suc, ◌+◌, ◌<◌, ◌≤◌, max}
use native.Mathlib.Omega.{arith}
use borrow.Author.Tests.{eqb-true, eq-eqb, ltb-true, ltb-false}
use lib.Dec.{eqb, ltb}
use lib.ListN.{length, get_or, drop, drop_of_length-le}
use Rattle.definitions.specs.Lists.{any_below}
use Rattle.definitions.specs.Graph.{unused_place, Graph, slot_of, inputs_of}
use Rattle.definitions.specs.Rule.{side_capacity, Rule, source_of, source_inputs}
use Rattle.definitions.specs.Match.{image_of, read_attribute, Match}
use Rattle.laws.proofs.Lists.{decided, true_not_false}
use Rattle.laws.proofs.Walks.{rest}
use Rattle.attributes.specs.Agreement.{agree_first}
use Rattle.rule_order.specs.InOrder.{InOrder, visited_after}
use Rattle.rule_order.proofs.InOrder.{in_order-first, in_order-rest}
use Rattle.match_look.specs.Candidate.{is_candidate}
use Rattle.match_images.specs.Partial.{Partial, Extends, Sends, SendsInputs, Step}
use Rattle.match_look.proofs.Candidates.{Formed, match_candidate}
use Rattle.match_images.proofs.Maps.{match_sends, match_agrees, match_free}

module _ {g : Graph} {r : Rule} {next : ℕ} {images : List ℕ} {Asked : List ℕ → Type 0} {end : ℕ} where
  -- no match that has these images meets what is asked, and nothing is written
  pub no_step : length images ≡ side_capacity → ((whole : List ℕ) → Match g r whole → Extends next images whole → Asked whole → ⊥)
      → Step g r next images Asked end false images
  no_step size none = record {
    size = size;
    kept = λ i l. refl;
    rest = λ i l. refl;
    partial = λ t. absurd (true_not_false t refl);
    meets = λ t. absurd (true_not_false t refl);
    forced = λ whole m e asked. absurd (none whole m e asked);
  }

  -- a first step, of which less is asked, fails
  first_fails : {First : List ℕ → Type 0} {mid : ℕ} {ok : Bool} {made : List ℕ} → Step g r next images First mid ok made → ok ≡ false
      → ((whole : List ℕ) → Match g r whole → Asked whole → First whole) → Step g r next images Asked end false made
  first_fails s f less = record {
    size = s.size;
    kept = s.kept;
    rest = s.rest;
    partial = λ t. absurd (true_not_false t refl);
    meets = λ t. absurd (true_not_false t refl);
    forced = λ whole m e asked. absurd (true_not_false (s.forced whole m e (less whole m asked)).0 f);
  }

  -- two steps, one after the other
  pub then_step : {First Second : List ℕ → Type 0} {mid start past : ℕ} {passed ok : Bool} {before made : List ℕ}
      → Step g r next images First mid passed before → passed ≡ true → mid ≡ start → next ≤ start
      → Step g r start before Second past ok made → past ≡ end
      → ((whole : List ℕ) → Match g r whole → Asked whole → First whole × Second whole)
      → (First before → Extends start before made → Second made → Asked made)
      → Step g r next images Asked end ok made
  then_step {made = made} one t e more two q parts join = record {
    size = two.size;
    kept = λ i l. two.kept i (omega arith) ∙ one.kept i l;
    rest = λ i l. two.rest i l ∙ one.rest i l;
    partial = λ h. subst (λ (n : ℕ). Partial g r n made) q (two.partial h);
    meets = λ h. join (one.meets t) two.kept (two.meets h);
    forced = λ whole m x asked.
        let last = two.forced whole m (λ i l. (one.forced whole m x (parts whole m asked).0).1 i (omega arith)) (parts whole m asked).1 in
        (last.0, λ i l. last.1 i (omega arith));
  }

  -- of two steps the second fails
  pub second_fails : {First Second : List ℕ → Type 0} {mid past : ℕ} {before made : List ℕ} {ok : Bool}
      → Step g r next images First mid true before → next ≤ mid → Step g r mid before Second past ok made → ok ≡ false
      → ((whole : List ℕ) → Match g r whole → Asked whole → First whole × Second whole)
      → Step g r next images Asked end false made
  second_fails one more two f parts = record {
    size = two.size;
    kept = λ i l. two.kept i (omega arith) ∙ one.kept i l;
    rest = λ i l. two.rest i l ∙ one.rest i l;
    partial = λ t. absurd (true_not_false t refl);
    meets = λ t. absurd (true_not_false t refl);
    forced = λ whole m x asked.
        let both = parts whole m asked in
        absurd (true_not_false (two.forced whole m (one.forced whole m x both.0).1 both.1).0 f);
  }

-- ---- a vertex

module _ (g : Graph) (r : Rule) (next : ℕ) (images : List ℕ) (p : Partial g r next images) (j v : ℕ) where
  -- it has its image already
  pub mapped : (image : ℕ) → image_of images j ≡ image → j < next
      → Step g r next images (Sends j v) (max next (suc j)) (eqb image v) images
  mapped image q l =
      let same : next ≡ max next (suc j) = omega arith in
      record {
        size = p.size;
        kept = λ i k. refl;
        rest = λ i k. refl;
        partial = λ t. subst (λ (n : ℕ). Partial g r n images) same p;
        meets = λ t. q ∙ eqb-true image v t;
        forced = λ whole m e asked. (eq-eqb image v (sym q ∙ sym (e j l) ∙ asked), λ i k. e i (omega arith));
      }

module _ (g : Graph) (r : Rule) (f : Formed r) (j v : ℕ) (inside : j < length r.source) where
  pub no_candidate : {next end : ℕ} {images : List ℕ} → length images ≡ side_capacity → is_candidate g r j v ≡ false
      → Step g r next images (Sends j v) end false images
  no_candidate size z = no_step size (λ whole m e asked. true_not_false (match_candidate g r f whole m j inside v asked) z)

  pub inputs_fail : {next mid end : ℕ} {images made : List ℕ} {ok : Bool}
      → Step g r next images (SendsInputs g r j v 0) mid ok made → ok ≡ false → Step g r next images (Sends j v) end false made
  inputs_fail s z = first_fails s z (λ whole m asked. match_sends g r f whole m j v inside asked)

  pub inputs_pass : {next mid : ℕ} {images before made : List ℕ} {passed ok : Bool}
      → Step g r next images (SendsInputs g r j v 0) mid passed before → passed ≡ true → mid ≡ j → next ≤ j
      → Step g r j before (Sends j v) (suc j) ok made
      → Step g r next images (Sends j v) (max next (suc j)) ok made
  inputs_pass one t e l two = then_step one t e l two (omega arith)
      (λ whole m asked. (match_sends g r f whole m j v inside asked, asked)) (λ a k b. b)

  module _ {end : ℕ} {images : List ℕ} (size : length images ≡ side_capacity) where
    pub is_taken : any_below (λ i. eqb (image_of images i) v) j ≡ true → Step g r j images (Sends j v) end false images
    is_taken t = no_step size (λ whole m e asked. match_free g r f whole m j v inside asked images e t)

    pub disagree : agree_first (read_attribute g images) (source_of r j).attributes (slot_of g v).attributes ≡ false
        → Step g r j images (Sends j v) end false images
    disagree z = no_step size (λ whole m e asked. true_not_false (match_agrees g r f whole m j v inside asked images e) z)

-- ---- the inputs of a vertex, from place i on

module _ (g : Graph) (r : Rule) (j v i : ℕ) where
  pub inputs-done : {next : ℕ} {images : List ℕ} → length (source_inputs r j) ≤ i → Partial g r next images
      → Step g r next images (SendsInputs g r j v i) (visited_after next (drop i (source_inputs r j))) true images
  unfolding visited_after
  inputs-done {next} {images} h p =
      let same : next ≡ visited_after next (drop i (source_inputs r j)) = rw (drop_of_length-le (source_inputs r j) h) in
      record {
        size = p.size;
        kept = λ k l. refl;
        rest = λ k l. refl;
        partial = λ t. subst (λ (n : ℕ). Partial g r n images) same p;
        meets = λ t k a b. absurd (omega arith);
        forced = λ whole m e asked. (refl, λ k l. e k (omega (arith, same)));
      }

  module _ (u w : ℕ) (left : i < length (source_inputs r j)) (eu : u ≡ get_or (source_inputs r j) i 255)
      (ew : w ≡ get_or (inputs_of g v) i unused_place) where
    sends_first : (whole : List ℕ) → SendsInputs g r j v i whole → Sends u w whole
    sends_first whole s = rw (eu, ew) (s i (omega arith) left)

    rest-inputs : drop i (source_inputs r j) ≡ u ∷ drop (i + 1) (source_inputs r j)
    rest-inputs = rw eu (rest (source_inputs r j) i 255 left)

    pub input_in_order : (next : ℕ) → InOrder r next (drop i (source_inputs r j)) → InOrder r next (u ∷ [])
    input_in_order next o = in_order-first r next u (drop (i + 1) (source_inputs r j)) (rw rest-inputs at o)

    pub others_in_order : (next after : ℕ) → InOrder r next (drop i (source_inputs r j)) → after ≡ max next (suc u)
        → InOrder r after (drop (i + 1) (source_inputs r j))
    others_in_order next after o e = rw e (in_order-rest r next u (drop (i + 1) (source_inputs r j)) (rw rest-inputs at o))

    pub input_fails : {next mid end : ℕ} {images made : List ℕ} {ok : Bool} → Step g r next images (Sends u w) mid ok made
        → ok ≡ false → Step g r next images (SendsInputs g r j v i) end false made
    input_fails s z = first_fails s z (λ whole m asked. sends_first whole asked)

    module _ {next reached : ℕ} {images before made : List ℕ} {passed ok : Bool} (e : reached ≡ max next (suc u))
        (one : Step g r next images (Sends u w) (max next (suc u)) passed before) (t : passed ≡ true)
        (two : Step g r reached before (SendsInputs g r j v (i + 1)) (visited_after reached (drop (i + 1) (source_inputs r j))) ok made) where
      same_end : visited_after reached (drop (i + 1) (source_inputs r j)) ≡ visited_after next (drop i (source_inputs r j))
      unfolding visited_after
      same_end = rw (rest-inputs, e)

      sends_both : Sends u w before → Extends reached before made → SendsInputs g r j v (i + 1) made → SendsInputs g r j v i made
      sends_both s x others k a b = ⊎_elim
          (λ (y : ltb i k ≡ true). others k (omega (arith, ltb-true i k y)) b)
          (λ (y : ltb i k ≡ false).
          let q : k ≡ i = omega (arith, ltb-false i k y) in
          rw (q, ← eu, ← ew) (x u (omega (arith, e)) ∙ s))
          (decided (ltb i k))

      pub input_passes : Step g r next images (SendsInputs g r j v i) (visited_after next (drop i (source_inputs r j))) ok made
      input_passes = then_step one t (sym e) (omega (arith, e)) two same_end
          (λ whole m asked. (sends_first whole asked, λ k a b. asked k (omega arith) b)) sends_both
