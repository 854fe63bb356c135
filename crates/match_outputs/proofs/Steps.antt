-- What is known while images of the first output are tried: no match has it at a slot that was passed. And what is then found.
-- Assumes nothing.
use mathlib.Core.Path.{◌≡◌, refl, sym, ◌∙◌, subst}
use mathlib.Core.Bool.{Bool, true, false}
use mathlib.Core.List.{List, [], ◌∷◌, Memᴰ}
use mathlib.Core.Logic.{◌⊎◌, inl, inr, ⊎_elim}
use mathlib.Core.Option.{none}
use Prim.Native.Nat.{ℕ, suc, ◌+◌, ◌<◌, ◌≤◌, max}
use native.Mathlib.Omega.{arith}
use borrow.Author.Tests.{ltb-true, ltb-false}
use lib.Dec.{ltb}
use lib.ListN.{length, get_or, take, replicate, length-replicate}
use Rattle.definitions.specs.Graph.{unused_place, slot_count, Graph, graph_of, slot_of}
use Rattle.definitions.specs.Rule.{side_capacity, source_count, Rule, source_of}
use Rattle.definitions.specs.Match.{image_of, Match, MatchFrom, output_images, NotAfter, least_match}
use Rattle.rule_fields.specs.Fixed.{fixed_of}
use Rattle.laws.proofs.Lists.{decided, true_not_false}
use Rattle.laws.proofs.Members.{mem_member}
use Rattle.laws.proofs.Builds.{get_or_none}
use Rattle.laws.proofs.Graph.{length-slots}
use Rattle.laws.proofs.Match.{image-inside}
use Rattle.rule_fields.proofs.Fixed.{length-source}
use Rattle.theory.proofs.Fixing.{Fixing}
use Rattle.theory.proofs.Least.{least_searched, none_found}
use Rattle.rule_nodes.specs.Working.{WorkingRule}
use Rattle.rule_sound.proofs.Fixed.{in_order_of, whole_in_order_of, fixing_of}
use Rattle.rule_order.specs.InOrder.{InOrder, visited_after}
use Rattle.rule_order.proofs.InOrder.{in_order-first}
use Rattle.match_images.specs.Partial.{Partial, Extends, Sends, Step}
use Rattle.match_look.specs.Head.{Head, pattern_head}
use Rattle.match_look.specs.Candidate.{passes_look, is_candidate}
use Rattle.match_look.proofs.Candidates.{formed, output_candidate}
use Rattle.match_look.specs.Look.{look}
use Rattle.match_look.proofs.Look.{no_match_after_no}
use Rattle.match_look.proofs.Working.{rule_matchable}
use Rattle.match_candidates.specs.Listed.{NextFrom}
use Rattle.match_outputs.specs.Finds.{LeastImages}
use Rattle.match_outputs.proofs.Whole.{short-images, partial_match}

-- ---- what was passed

-- every match from the start on has the first output's image at `first` or later
pub record Passed (g : Graph) (r : Rule) (o start first : ℕ) : Type 0 where
  pub from : start ≤ first
  pub left : (whole : List ℕ) → Match g r whole → start ≤ image_of whole o → first ≤ image_of whole o

pub passed_start : (g : Graph) (r : Rule) (o start : ℕ) → Passed g r o start start
passed_start g r o start = record { from = omega arith; left = λ whole m h. h }

-- and slot `first` passes the look for the first output, whose head is h, where it is a slot at all
pub record AtCandidate (g : Graph) (r : Rule) (o start : ℕ) (h : Head) (end first : ℕ) : Type 0 where
  pub passed : Passed g r o start first
  pub looked : first < end → passes_look h g first ≡ true

-- what the look turns away is no match's image: from the next candidate on is all that is left
pub at_next : (g : Graph) (r : Rule) (o start : ℕ) (h : Head) {slots end from next : ℕ} → o < length r.source
    → h ≡ pattern_head (source_of r o) → slots ≡ end → NextFrom (passes_look h g) from end next → Passed g r o start from
    → AtCandidate g r o start h slots next
unfolding passes_look
at_next g r o start h {next = next} l e n found passed = record {
  passed = record {
    from = omega (arith, passed.from, found.begun);
    left = λ whole m s.
        let x : ℕ = image_of whole o in
        ⊎_elim
        (λ (t : ltb x next ≡ true).
        let refused : look (source_of r o) (slot_of g x) ≡ false = rw e at (found.passed x (passed.left whole m s) (ltb-true x next t)) in
        absurd (no_match_after_no r o (slot_of g x) l refused g x
        record { kind = refl; operator = refl; inputs = refl; attributes = refl } whole m refl))
        (λ (t : ltb x next ≡ false). ltb-false x next t)
        (decided (ltb x next));
  };
  looked = λ t. found.holds (omega arith);
}

-- where `first` itself is no match's image, one more is passed
pub pass_first : (g : Graph) (r : Rule) (o start first : ℕ) → Passed g r o start first
    → ((whole : List ℕ) → Match g r whole → image_of whole o ≡ first → ⊥) → Passed g r o start (first + 1)
pass_first g r o start first passed never = record {
  from = omega (arith, passed.from);
  left = λ whole m h.
      let other : image_of whole o ≡ first → ⊥ = never whole m in
      omega (arith, passed.left whole m h);
}

-- ---- the lent array

-- a place for as many images as there can be, with 65535 in those that no source vertex has
pub record Blank (r : Rule) (images : List ℕ) : Type 0 where
  pub size : length images ≡ side_capacity
  pub rest : (i : ℕ) → length r.source ≤ i → image_of images i ≡ unused_place

pub blank-start : (r : Rule) → Blank r (replicate side_capacity unused_place)
unfolding image_of
blank-start r = record { size = length-replicate side_capacity unused_place; rest = λ i l. get_or_none side_capacity i unused_place }

-- it has the images of all vertices up to the first output, which is sent to `first`, and no match that sends it there has others
pub record Rooted (g : Graph) (r : Rule) (o first : ℕ) (images : List ℕ) : Type 0 where
  pub partial : Partial g r (o + 1) images
  pub image : image_of images o ≡ first
  pub forced : (whole : List ℕ) → Match g r whole → image_of whole o ≡ first → Extends (o + 1) images whole

-- it is kept by what leaves the places that no source vertex has as they were
pub blank-after : {r : Rule} {images made : List ℕ} → length made ≡ side_capacity
    → ((i : ℕ) → length r.source ≤ i → image_of made i ≡ image_of images i) → Blank r images → Blank r made
blank-after size rest b = record { size = size; rest = λ i l. rest i l ∙ b.rest i l }

-- ---- the first output's step: nothing is mapped before it

pub nothing_mapped : (g : Graph) (r : Rule) (images : List ℕ) → length images ≡ side_capacity → Partial g r 0 images
nothing_mapped g r images size = record {
  size = size;
  small = omega arith;
  vertices = λ i l. absurd (omega arith);
  injective = λ i k l m h. absurd (omega arith);
  takes = λ i l h. absurd (omega arith);
  demands = λ i l h. absurd (omega arith);
}

module _ (g : Graph) (r : Rule) (o first : ℕ) {images made : List ℕ} {ok : Bool}
    (root : Step g r 0 images (Sends o first) (max 0 (suc o)) ok made) where
  -- so every match extends that
  forced_root : (whole : List ℕ) → Match g r whole → image_of whole o ≡ first → (ok ≡ true) × Extends (max 0 (suc o)) made whole
  forced_root whole m e = root.forced whole m (λ i l. absurd (omega arith)) e

  pub root_fails : (start : ℕ) → Passed g r o start first → ok ≡ false → Passed g r o start (first + 1)
  root_fails start passed f = pass_first g r o start first passed (λ whole m e. true_not_false (forced_root whole m e).0 f)

  pub root-made : ok ≡ true → Rooted g r o first made
  root-made t =
      let same : max 0 (suc o) ≡ o + 1 = omega arith in
      record {
        partial = subst (λ (n : ℕ). Partial g r n made) same (root.partial t);
        image = root.meets t;
        forced = λ whole m e i l. (forced_root whole m e).1 i (omega arith);
      }

-- ---- what is found

-- x is not after y, by their first numbers
pub le_cases : {A : Type 0} (x y : ℕ) → x ≤ y → (x ≡ y → A) → (x < y) ⊎ ((x ≡ y) × A)
le_cases x y h f = ⊎_elim (λ (t : ltb x y ≡ true). inl (ltb-true x y t))
    (λ (t : ltb x y ≡ false). let e : x ≡ y = omega (arith, ltb-false x y t) in inr (e, f e))
    (decided (ltb x y))

module _ (graph rule : List ℕ) (working : WorkingRule rule) where
  abbrev g : Graph
  g = graph_of graph

  abbrev r : Rule
  r = fixed_of rule

  fixing : Fixing r
  fixing = fixing_of side_capacity r working.sound

  -- a map of all source vertices is the least match where no match from the start has output images before its own
  pub least_map : (start : ℕ) (made : List ℕ) (end : ℕ) → Partial g r end made → end ≡ length r.source → Blank r made
      → start ≤ image_of made (get_or r.source_outputs 0 0)
      → ((whole : List ℕ) → MatchFrom g r start whole → NotAfter (output_images r made) (output_images r whole))
      → LeastImages (least_match g r start) (source_count rule) made
  least_map start made end p e blank from least =
      let whole : Partial g r (length r.source) made = rw e at p in
      let fits : length r.source ≤ side_capacity = rw (length-source rule) working.readable.whole.source in
      let f = formed rule (rule_matchable rule working) in
      let same = short-images g r f made whole blank.rest fits in
      let is_match = partial_match g r f made whole blank.rest fits in
      record {
        found = rw (← length-source rule) (least_searched g r fixing start (take (length r.source) made)
            (record { from = record { is_match = is_match; first = rw same from }; least = rw same least }));
        size = blank.size;
        small = working.readable.whole.source;
        rest = λ i l. blank.rest i (rw (length-source rule) l);
      }

  -- where there is no match from the start on, nothing is to be found
  pub nothing_found : (start : ℕ) → ((whole : List ℕ) → MatchFrom g r start whole → ⊥) → least_match g r start ≡ none
  nothing_found start never = none_found g r fixing start never

  module _ (o : ℕ) (others : List ℕ) (outputs : r.source_outputs ≡ o ∷ others) where
    first-listed : Memᴰ o r.source_outputs
    first-listed = subst (Memᴰ o) (sym outputs) (Memᴰ.head refl)

    pub first-inside : o < length r.source
    first-inside = working.sound.outputs_inside o first-listed

    -- what passes the look for it is a candidate for it
    pub first_candidate : (h : Head) → h ≡ pattern_head (source_of r o) → (v : ℕ) → passes_look h g v ≡ true → is_candidate g r o v ≡ true
    first_candidate h e v t = output_candidate g r o v (mem_member first-listed) (rw e at t)

    pub first_in_order : InOrder r 0 (o ∷ [])
    first_in_order = in_order-first r 0 o others (subst (InOrder r 0) outputs (in_order_of side_capacity r working.sound))

    module _ (start first : ℕ) (passed : Passed g r o start first) where
      pub first-from : (whole : List ℕ) → MatchFrom g r start whole → first ≤ image_of whole o
      first-from whole from = passed.left whole from.is_match (rw outputs at from.first)

      -- where every slot from the start on is passed, there is no match
      pub all_passed : slot_count graph ≤ first → (whole : List ℕ) → MatchFrom g r start whole → ⊥
      all_passed h whole from =
          omega (arith, first-from whole from, image-inside g r whole o from.is_match first-inside, length-slots graph)

  -- one output: its image decides alone
  module _ (o : ℕ) (outputs : r.source_outputs ≡ o ∷ []) (start first : ℕ) (passed : Passed g r o start first) where
    pub one_found : {made : List ℕ} → Rooted g r o first made → Blank r made → LeastImages (least_match g r start) (source_count rule) made
    unfolding visited_after
    one_found {made} root blank =
        let whole : max 0 (suc o) ≡ length r.source = rw outputs at (whole_in_order_of side_capacity r working.sound) in
        least_map start made (o + 1) root.partial (omega arith) blank (rw (outputs, root.image) passed.from)
        (λ other from. rw (outputs, root.image)
        (le_cases first (image_of other o) (first-from o [] outputs start first passed other from) (λ e. tt)))
