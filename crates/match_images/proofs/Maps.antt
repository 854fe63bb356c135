-- A map of the first source vertices that gains one more image, and what a match gives to the map that it extends.
-- Assumes nothing.
use mathlib.Core.Path.{◌≡◌, refl, sym, ap, ◌∙◌, subst}
use mathlib.Core.Bool.{Bool, true, false}
use mathlib.Core.List.{List, map}
use mathlib.Core.Logic.{⊎_elim}
use Prim.Native.Nat.{ℕ, suc, ◌<◌}
use native.Mathlib.Nat.{not-suc-le-zero}
use native.Mathlib.Omega.{arith}
use borrow.Author.Tests.{eqb-true, eqb-false, eq-eqb, ltb-true, ltb-false}
use lib.Dec.{eqb, ltb, T}
use lib.ListN.{length, get_or, set, length-set, length-map}
use lib.Seq.{ext_get_or, get_or-set_same, get_or-set_other}
use Rattle.definitions.specs.Lists.{all_below, any_below, all_pairs}
use Rattle.definitions.specs.Fields.{signed}
use Rattle.definitions.specs.Operators.{kind_empty}
use Rattle.definitions.specs.Graph.{unused_place, Slot, Graph, slot_of, inputs_of, is_vertex, true_count}
use Rattle.definitions.specs.Rule.{side_capacity, Rule, source_of, source_inputs}
use Rattle.definitions.specs.Attributes.{agrees}
use Rattle.definitions.specs.Match.{image_of, attribute_of, read_attribute, must_be_private, Takes, Match, places_of}
use Rattle.laws.proofs.Lists.{decided, true_not_false, any_below-found, any_below_some, map_at, map_same}
use Rattle.laws.proofs.Members.{holds, true_holds}
use Rattle.laws.proofs.Rule.{wild_input}
use Rattle.attributes.specs.Agreement.{agree_first}
use Rattle.attributes.proofs.Laws.{agree_pairs, agree_first_below}
use Rattle.match_look.specs.Head.{slot_head, pattern_head}
use Rattle.match_look.specs.Candidate.{is_candidate}
use Rattle.match_images.specs.Partial.{Partial, Extends, Sends, SendsInputs, Step}
use Rattle.match_look.proofs.Candidates.{Formed, candidate_same, candidate_vertex, candidate_uses}

-- ---- what a vertex asks of a map, it asks of the images of lower vertices

module _ (g : Graph) (a b : List ℕ) (i : ℕ) (same : (u : ℕ) → u < i → image_of a u ≡ image_of b u) where
  reads_same : (u k : ℕ) → u < i → read_attribute g a u k ≡ read_attribute g b u k
  unfolding read_attribute
  reads_same u k l = ap (λ (n : ℕ). attribute_of (slot_of g n) k) (same u l)

  module _ (r : Rule) (f : Formed r) (inside : i < length r.source) where
    agree_same : (words : List ℕ)
        → agree_first (read_attribute g a) (source_of r i).attributes words ≡ agree_first (read_attribute g b) (source_of r i).attributes words
    agree_same words = agree_first_below (read_attribute g a) (read_attribute g b) i (source_of r i).attributes words
        (λ k l. f.below i k inside l) reads_same

    inputs_same : map (image_of a) (source_inputs r i) ≡ map (image_of b) (source_inputs r i)
    inputs_same = map_same (image_of a) (image_of b) (source_inputs r i) (λ u m. same u (f.lower i u m))

-- the attributes of a pattern that takes a slot agree with the slot's, and the other way round
module _ (g : Graph) (images : List ℕ) (r : Rule) (j : ℕ) (s : Slot) where
  abbrev pairs : Bool
  pairs = all_pairs (λ e word. agrees (read_attribute g images) e (signed word)) (source_of r j).attributes s.attributes

  abbrev first : Bool
  first = agree_first (read_attribute g images) (source_of r j).attributes s.attributes

  takes_agree : Takes g images (source_of r j) s → first ≡ true
  takes_agree k =
      agree_pairs (read_attribute g images) (source_of r j).attributes s.attributes (sym k.attribute_count) ∙ holds pairs k.attributes

  agree_holds : length s.attributes ≡ length (source_of r j).attributes → first ≡ true → T pairs
  agree_holds n t = true_holds pairs
      (sym (agree_pairs (read_attribute g images) (source_of r j).attributes s.attributes (sym n)) ∙ t)

-- a vertex takes a slot under any map with the same images of lower vertices
pub takes_same : (g : Graph) (a b : List ℕ) (r : Rule) (i : ℕ) (s : Slot) → Formed r → i < length r.source
    → ((u : ℕ) → u < i → image_of a u ≡ image_of b u) → Takes g a (source_of r i) s → Takes g b (source_of r i) s
takes_same g a b r i s f inside same k = record {
  kind = k.kind;
  operator = k.operator;
  input_count = k.input_count;
  attribute_count = k.attribute_count;
  attributes = agree_holds g b r i s k.attribute_count
      (sym (agree_same g a b i same r f inside s.attributes) ∙ takes_agree g a r i s k);
  inputs = k.inputs ∙ inputs_same g a b i same r f inside;
}

-- a map of the first vertices says nothing of the other places
pub partial_same : (g : Graph) (r : Rule) (next : ℕ) (images made : List ℕ) → Formed r → Partial g r next images
    → Extends next images made → length made ≡ side_capacity → Partial g r next made
partial_same g r next images made f p e size = record {
  size = size;
  small = p.small;
  vertices = λ i l. rw (e i l) (p.vertices i l);
  injective = λ i k l m h. p.injective i k l m (sym (e i l) ∙ h ∙ e k m);
  takes = λ i l h. rw (e i l) (takes_same g images made r i (slot_of g (image_of images i)) f (omega (arith, p.small))
      (λ u k. sym (e u (omega arith))) (p.takes i l h));
  demands = λ i l t. rw (e i l) (p.demands i l t);
}

-- ---- one more image

-- what holds below j and at j holds below the next
below_next : (P : ℕ → Type 0) (j : ℕ) → ((i : ℕ) → i < j → P i) → P j → (i : ℕ) → i < suc j → P i
below_next P j low here i l = ⊎_elim
    (λ (t : ltb i j ≡ true). low i (ltb-true i j t))
    (λ (t : ltb i j ≡ false). let e : j ≡ i = omega (arith, ltb-false i j t) in subst P e here)
    (decided (ltb i j))

module _ (images : List ℕ) (j v : ℕ) (size : length images ≡ side_capacity) (place : j < side_capacity) where
  pub set_here : image_of (set images j v) j ≡ v
  unfolding image_of
  set_here = get_or-set_same images j v unused_place (omega arith)

  pub set_other : (i : ℕ) → (i ≡ j → ⊥) → image_of (set images j v) i ≡ image_of images i
  unfolding image_of
  set_other i h = get_or-set_other images j i v unused_place h

  pub set_below : (i : ℕ) → i < j → image_of (set images j v) i ≡ image_of images i
  set_below i l = set_other i (λ e. omega arith)

module _ (g : Graph) (r : Rule) (f : Formed r) (j v : ℕ) (images : List ℕ) (inside : j < length r.source) (place : j < side_capacity)
    (p : Partial g r j images) (fits : is_candidate g r j v ≡ true) where
  abbrev made : List ℕ
  made = set images j v

  abbrev low : (i : ℕ) → i < j → image_of made i ≡ image_of images i
  low = set_below images j v p.size place

  abbrev here : image_of made j ≡ v
  here = set_here images j v p.size place

  abbrev Agree : Type 0
  Agree = agree_first (read_attribute g images) (source_of r j).attributes (slot_of g v).attributes ≡ true

  abbrev Free : Type 0
  Free = any_below (λ i. eqb (image_of images i) v) j ≡ false

  new-inputs : ((source_of r j).kind ≡ kind_empty → ⊥) → SendsInputs g r j v 0 images
      → inputs_of g v ≡ map (image_of images) (source_inputs r j)
  unfolding slot_head pattern_head
  new-inputs h sends =
      let n : length (inputs_of g v) ≡ length (source_inputs r j) = (candidate_same g r j v fits h).inputs in
      ext_get_or unused_place (inputs_of g v) (map (image_of images) (source_inputs r j)) (n ∙ sym (length-map (source_inputs r j) (image_of images)))
      (λ k l. sym (sends k (omega arith) (omega arith))
      ∙ sym (map_at (image_of images) (source_inputs r j) k unused_place 255 (omega arith)))

  new-takes : SendsInputs g r j v 0 images → Agree → ((source_of r j).kind ≡ kind_empty → ⊥) → Takes g images (source_of r j) (slot_of g v)
  unfolding slot_head pattern_head
  new-takes sends agree h =
      let same = candidate_same g r j v fits h in
      record {
        kind = same.kind;
        operator = same.operator;
        input_count = same.inputs;
        attribute_count = same.attributes;
        attributes = agree_holds g images r j (slot_of g v) same.attributes agree;
        inputs = new-inputs h sends;
      }

  no_lower : Free → (i : ℕ) → i < j → image_of images i ≡ v → ⊥
  no_lower free i l e =
      true_not_false (any_below-found (λ k. eqb (image_of images k) v) j i l (eq-eqb (image_of images i) v e)) free

  new_injective : Free → (i k : ℕ) → i < suc j → k < suc j → image_of made i ≡ image_of made k → i ≡ k
  new_injective free i k a b e = ⊎_elim
      (λ (s : ltb i j ≡ true). ⊎_elim
      (λ (t : ltb k j ≡ true).
      p.injective i k (ltb-true i j s) (ltb-true k j t) (sym (low i (ltb-true i j s)) ∙ e ∙ low k (ltb-true k j t)))
      (λ (t : ltb k j ≡ false).
      let q : k ≡ j = omega (arith, ltb-false k j t) in
      absurd (no_lower free i (ltb-true i j s) (sym (low i (ltb-true i j s)) ∙ e ∙ ap (image_of made) q ∙ here)))
      (decided (ltb k j)))
      (λ (s : ltb i j ≡ false).
      let q : i ≡ j = omega (arith, ltb-false i j s) in
      ⊎_elim
      (λ (t : ltb k j ≡ true).
      absurd (no_lower free k (ltb-true k j t) (sym (low k (ltb-true k j t)) ∙ sym e ∙ ap (image_of made) q ∙ here)))
      (λ (t : ltb k j ≡ false). omega (arith, ltb-false k j t))
      (decided (ltb k j)))
      (decided (ltb i j))

  extend : Free → SendsInputs g r j v 0 images → Agree → Partial g r (suc j) made
  extend free sends agree = record {
    size = length-set images j v ∙ p.size;
    small = inside;
    vertices = below_next (λ i. is_vertex g (image_of made i) ≡ true) j (λ i l. rw (low i l) (p.vertices i l))
        (rw here (candidate_vertex g r j v fits));
    injective = new_injective free;
    takes = below_next (λ i. ((source_of r i).kind ≡ kind_empty → ⊥) → Takes g made (source_of r i) (slot_of g (image_of made i))) j
        (λ i l h. rw (low i l) (takes_same g images made r i (slot_of g (image_of images i)) f (omega arith)
        (λ u k. sym (low u (omega arith))) (p.takes i l h)))
        (λ h. rw here (takes_same g images made r j (slot_of g v) f inside (λ u k. sym (low u k)) (new-takes sends agree h)));
    demands = below_next (λ i. must_be_private r i ≡ true → true_count g (image_of made i) ≡ places_of r i) j
        (λ i l. rw (low i l) (p.demands i l)) (rw here (candidate_uses g r j v fits));
  }

  -- ---- the step that gives j its image

  pub settled : Free → SendsInputs g r j v 0 images → Agree → Step g r j images (Sends j v) (suc j) true made
  settled free sends agree = record {
    size = length-set images j v ∙ p.size;
    kept = low;
    rest = λ i l. set_other images j v p.size place i (λ e. omega arith);
    partial = λ t. extend free sends agree;
    meets = λ t. here;
    forced = λ whole m e asked. (
      refl,
      below_next (λ i. image_of whole i ≡ image_of made i) j (λ i l. e i l ∙ sym (low i l)) (asked ∙ sym here),
    );
  }

-- ---- what a match gives to the map that it extends

module _ (g : Graph) (r : Rule) (f : Formed r) (whole : List ℕ) (m : Match g r whole) (j v : ℕ) (inside : j < length r.source)
    (asked : Sends j v whole) where
  takes-here : ((source_of r j).kind ≡ kind_empty → ⊥) → Takes g whole (source_of r j) (slot_of g v)
  takes-here h = rw asked at (m.takes j inside h)

  pub match_sends : SendsInputs g r j v 0 whole
  match_sends k a l = ⊎_elim
      (λ (t : eqb (source_of r j).kind kind_empty ≡ true).
      let none = f.plain j (wild_input r j inside (eqb-true (source_of r j).kind kind_empty t)) in
      absurd (not-suc-le-zero (rw none at l)))
      (λ (t : eqb (source_of r j).kind kind_empty ≡ false).
      sym (map_at (image_of whole) (source_inputs r j) k unused_place 255 l)
      ∙ ap (λ (xs : List ℕ). get_or xs k unused_place) (sym (takes-here (eqb-false (source_of r j).kind kind_empty t)).inputs))
      (decided (eqb (source_of r j).kind kind_empty))

  whole-agrees : agree_first (read_attribute g whole) (source_of r j).attributes (slot_of g v).attributes ≡ true
  unfolding agree_first all_below
  whole-agrees = ⊎_elim
      (λ (t : eqb (source_of r j).kind kind_empty ≡ true). rw (f.bare j (eqb-true (source_of r j).kind kind_empty t)))
      (λ (t : eqb (source_of r j).kind kind_empty ≡ false).
      takes_agree g whole r j (slot_of g v) (takes-here (eqb-false (source_of r j).kind kind_empty t)))
      (decided (eqb (source_of r j).kind kind_empty))

  module _ (images : List ℕ) (e : Extends j images whole) where
    pub match_agrees : agree_first (read_attribute g images) (source_of r j).attributes (slot_of g v).attributes ≡ true
    match_agrees = sym (agree_same g whole images j e r f inside (slot_of g v).attributes) ∙ whole-agrees

    pub match_free : any_below (λ i. eqb (image_of images i) v) j ≡ true → ⊥
    match_free t =
        let found = any_below_some (λ i. eqb (image_of images i) v) j t in
        let same : found.0 ≡ j = m.injective found.0 j (omega (arith, found.1)) inside
        (e found.0 found.1 ∙ eqb-true (image_of images found.0) v found.2 ∙ sym asked) in
        omega (arith, found.1)
