-- What is known while images of the second output are tried with one of the first, and what is then found.
-- Assumes nothing.
use mathlib.Core.Path.{◌≡◌, refl, sym, ◌∙◌, subst}
use mathlib.Core.Bool.{Bool, true, false}
use mathlib.Core.List.{List, [], ◌∷◌, Memᴰ}
use mathlib.Core.Logic.{⊎_elim}
use Prim.Native.Nat.{ℕ, suc, ◌+◌, ◌<◌, ◌≤◌, max}
use native.Mathlib.Omega.{arith}
use borrow.Author.Tests.{eqb-true, eqb-false}
use lib.Dec.{eqb}
use lib.ListN.{length, get_or}
use Rattle.definitions.specs.Graph.{Graph, graph_of}
use Rattle.definitions.specs.Rule.{side_capacity, source_count, Rule, source_of}
use Rattle.definitions.specs.Match.{image_of, Match, least_match}
use Rattle.rule_fields.specs.Fixed.{fixed_of}
use Rattle.laws.proofs.Lists.{decided, true_not_false}
use Rattle.laws.proofs.Members.{mem_member}
use Rattle.laws.proofs.Match.{image-inside}
use Rattle.rule_nodes.specs.Working.{WorkingRule}
use Rattle.rule_sound.proofs.Fixed.{in_order_of, whole_in_order_of}
use Rattle.rule_order.specs.InOrder.{InOrder, visited_after}
use Rattle.rule_order.proofs.InOrder.{in_order-rest}
use Rattle.match_images.specs.Partial.{Sends, Step}
use Rattle.match_images.proofs.Maps.{partial_same}
use Rattle.match_look.specs.Head.{Head, pattern_head}
use Rattle.match_look.specs.Candidate.{passes_look, is_candidate}
use Rattle.match_look.proofs.Candidates.{Formed, output_candidate}
use Rattle.match_look.proofs.Look.{match_passes}
use Rattle.match_candidates.specs.Listed.{Listed}
use Rattle.match_outputs.specs.Finds.{LeastImages}
use Rattle.match_outputs.proofs.Steps.{Passed, pass_first, Blank, Rooted, le_cases, least_map, first-from}
use Rattle.match_pairs.proofs.Later.{later}

-- ---- what is left of the list

-- Every match that sends the first output to `first` has the second output's image among the listed slots, from place k on.
abbrev pub Left : Graph → Rule → ℕ → ℕ → ℕ → List ℕ → ℕ → ℕ → Type 0
Left g r o q first list count k =
    (whole : List ℕ) → Match g r whole → image_of whole o ≡ first → (i : ℕ) × (k ≤ i) × (i < count) × (get_or list i 0 ≡ image_of whole q)

module _ (g : Graph) (r : Rule) (o q first : ℕ) (h : Head) (e : h ≡ pattern_head (source_of r q)) {list : List ℕ} {count : ℕ}
    (listed : Listed (passes_look h g) (length g.slots) list count) where
  -- what the look turned away is no match's image
  pub left-all : q < length r.source → Left g r o q first list count 0
  unfolding passes_look
  left-all l whole m s =
      let found = listed.every (image_of whole q) (image-inside g r whole q m l) (rw e (match_passes g r whole m q l)) in
      (found.0, omega arith, found.1, found.2)

  module _ (k : ℕ) (left : Left g r o q first list count k) where
    -- the listed slots ascend, so that the next one is the least that is left
    pub left_least : k < count → (whole : List ℕ) → Match g r whole → image_of whole o ≡ first → get_or list k 0 ≤ image_of whole q
    left_least l whole m s =
        let found = left whole m s in
        let i = found.0 in
        ⊎_elim
        (λ (t : eqb k i ≡ true). let same : k ≡ i = eqb-true k i t in rw same (omega (arith, found.3)))
        (λ (t : eqb k i ≡ false).
        let other = eqb-false k i t in
        omega (arith, listed.ascending k i (omega arith) found.2, found.3))
        (decided (eqb k i))

    pub left-next : {end : ℕ} {images made : List ℕ} {ok : Bool} → Rooted g r o first images
        → Step g r (o + 1) images (Sends q (get_or list k 0)) end ok made → ok ≡ false → Left g r o q first list count (k + 1)
    left-next root pair f whole m s =
        let found = left whole m s in
        let i = found.0 in
        let other : k ≡ i → ⊥ = λ same.
        true_not_false (pair.forced whole m (root.forced whole m s) (sym found.3 ∙ rw same)).0 f in
        (i, omega arith, found.2, found.3)

-- where none is left, one more first image is passed
pub none_left : (g : Graph) (r : Rule) (o q first start : ℕ) (list : List ℕ) (count k : ℕ) → Left g r o q first list count k
    → count ≤ k → Passed g r o start first → Passed g r o start (first + 1)
none_left g r o q first start list count k left h passed =
    pass_first g r o start first passed (λ whole m e. let found = left whole m e in omega arith)

-- ---- a step for the second output leaves the images that the first one's step gave

pub rooted_after : (g : Graph) (r : Rule) (o first : ℕ) {Asked : List ℕ → Type 0} {end : ℕ} {images made : List ℕ} {ok : Bool} → Formed r
    → Step g r (o + 1) images Asked end ok made → Rooted g r o first images → Rooted g r o first made
rooted_after g r o first {images = images} {made = made} f step root = record {
  partial = partial_same g r (o + 1) images made f root.partial step.kept step.size;
  image = step.kept o (omega arith) ∙ root.image;
  forced = λ whole m h i l. root.forced whole m h i l ∙ sym (step.kept i l);
}

-- ---- a rule with two outputs

module _ (graph rule : List ℕ) (working : WorkingRule rule) (o q : ℕ) (outputs : (fixed_of rule).source_outputs ≡ o ∷ q ∷ []) where
  abbrev g : Graph
  g = graph_of graph

  abbrev r : Rule
  r = fixed_of rule

  second-listed : Memᴰ q r.source_outputs
  second-listed = subst (Memᴰ q) (sym outputs) (Memᴰ.tail (Memᴰ.head refl))

  pub second-inside : q < length r.source
  second-inside = working.sound.outputs_inside q second-listed

  -- what passes the look for it is a candidate for it
  pub second_candidate : (h : Head) → h ≡ pattern_head (source_of r q) → (v : ℕ) → passes_look h g v ≡ true → is_candidate g r q v ≡ true
  second_candidate h e v t = output_candidate g r q v (mem_member second-listed) (rw e at t)

  pub second_in_order : InOrder r (o + 1) (q ∷ [])
  second_in_order =
      let same : max 0 (suc o) ≡ o + 1 = omega arith in
      subst (λ (n : ℕ). InOrder r n (q ∷ [])) same
      (in_order-rest r 0 o (q ∷ []) (subst (InOrder r 0) outputs (in_order_of side_capacity r working.sound)))

  -- it has no image where the first output has one
  pub second-later : o < q
  second-later = later r o q outputs working.sound.outputs (subst (InOrder r 0) outputs (in_order_of side_capacity r working.sound))

  pub two_found : (start first second : ℕ) → Passed g r o start first → {images made : List ℕ} {ok : Bool}
      → ((whole : List ℕ) → Match g r whole → image_of whole o ≡ first → second ≤ image_of whole q)
      → Rooted g r o first images → Step g r (o + 1) images (Sends q second) (max (o + 1) (suc q)) ok made → ok ≡ true
      → Blank r made → LeastImages (least_match g r start) (source_count rule) made
  unfolding visited_after
  two_found start first second passed {made = made} least root pair t blank =
      let whole : max (max 0 (suc o)) (suc q) ≡ length r.source = rw outputs at (whole_in_order_of side_capacity r working.sound) in
      let image : image_of made o ≡ first = pair.kept o (omega arith) ∙ root.image in
      let other_image : image_of made q ≡ second = pair.meets t in
      least_map graph rule working start made (max (o + 1) (suc q)) (pair.partial t) (omega arith) blank (rw (outputs, image) passed.from)
      (λ other from. rw (outputs, image, other_image) (le_cases first (image_of other o)
      (first-from graph rule working o (q ∷ []) outputs start first passed other from)
      (λ e. le_cases second (image_of other q) (least other from.is_match (sym e)) (λ d. tt))))
