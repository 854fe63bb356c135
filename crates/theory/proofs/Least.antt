-- The least match from a start: it is a match from that start, it is found where there is one, and no match from that start is before
-- it. So where none is found, none is left.
-- Assumes nothing.
use mathlib.Core.Path.{◌≡◌, sym, ap, ◌∙◌, subst}
use mathlib.Core.Bool.{true, false}
use mathlib.Core.List.{List, [], ◌∷◌, ◌++◌, Memᴰ}
use mathlib.Core.Logic.{◌↔◌, ⊎_elim}
use mathlib.Core.Option.{none, some, some-injective, none-ne-some}
use Prim.Native.Nat.{ℕ, zero, suc, ◌+◌, ◌<◌, ◌≤◌}
use native.Mathlib.Nat.{not-suc-le-zero, le_of_suc-le-suc}
use native.Mathlib.Omega.{arith}
use lib.ListN.{length, get_or, take, drop, length-map}
use Rattle.definitions.specs.Lists.{member, position}
use Rattle.definitions.specs.Graph.{unused_place, Graph, is_vertex}
use Rattle.definitions.specs.Rule.{Pattern, Rule}
use Rattle.definitions.specs.Match.{image_of, Match, MatchFrom, output_images, NotAfter, LeastFrom, is_match, images_from, images_for, choices, attempt, least_match}
use Rattle.laws.proofs.Lists.{decided, map_at, option_either}
use Rattle.laws.proofs.Graph.{vertex-inside}
use Rattle.laws.proofs.Members.{holds, member_mem, mem_member, mem-at, position_least}
use Rattle.theory.proofs.Match.{test-sound, test_complete}
use Rattle.theory.proofs.Fixing.{Fixing, Chosen, images-chosen, images-fixed}
use Rattle.theory.proofs.Choices.{not_after_self, not_after_both, first_found, first_least, sorted-choices, Numbers, mem_choices, choices_mem, numbers_mixed, first_mixed, least_values}

-- what is made from a choice gives an output its chosen image
from_choice : (g : Graph) (outputs chosen : List ℕ) (ps : List (Pattern ℕ)) (v i : ℕ) → i < length ps → member (v + i) outputs ≡ true
    → get_or (images_from g outputs chosen ps v) i unused_place ≡ get_or chosen (position (v + i) outputs) unused_place
unfolding images_from
from_choice g outputs chosen [] v i l m = absurd (not-suc-le-zero l)
from_choice g outputs chosen (p ∷ ps) v zero l m =
    let here : v + 0 ≡ v = omega arith in
    let mine : member v outputs ≡ true = rw here at m in
    rw (here, mine)
from_choice g outputs chosen (p ∷ ps) v (suc i) l m =
    let next : v + suc i ≡ suc v + i = omega arith in
    rw next (from_choice g outputs chosen ps (suc v) i (le_of_suc-le-suc l) (rw next at m))

-- what trying a choice gives: what is made from it, where that is a match
module _ (g : Graph) (r : Rule) where
  pub attempt_some : (chosen images : List ℕ) → attempt g r chosen ≡ some images → Match g r images × (images ≡ images_for g r chosen)
  unfolding attempt
  attempt_some chosen images h =
      let made : List ℕ = images_for g r chosen in
      ⊎_elim (λ (t : is_match g r made ≡ true).
      let same : made ≡ images = some-injective made images (simp t at h) in
      (subst (Match g r) same (test-sound g r made t), sym same))
      (λ (t : is_match g r made ≡ false). absurd (none-ne-some images (simp t at h)))
      (decided (is_match g r made))

  attempt_match : (chosen images : List ℕ) → Match g r images → images ≡ images_for g r chosen → attempt g r chosen ≡ some images
  unfolding attempt
  attempt_match chosen images m e = rw (← e, test_complete g r images m)

-- A map is a match exactly where one attempt at its own output images gives it.
pub match_attempted : (g : Graph) (r : Rule) → Fixing r → (images : List ℕ)
    → Match g r images ↔ (attempt g r (output_images r images) ≡ some images)
match_attempted g r fixing images = (
  λ m. attempt_match g r (output_images r images) images m (images-fixed g r fixing images m),
  λ e. (attempt_some g r (output_images r images) images e).0,
)

module _ (g : Graph) (r : Rule) (fixing : Fixing r) (s : ℕ) where
  -- the choices that are tried
  abbrev pub tried : List (List ℕ)
  tried = choices (length g.slots) (length r.source_outputs) s

  -- what is made from a choice agrees with it
  pub made-chosen : (chosen : List ℕ) → Chosen r (images_for g r chosen) chosen
  unfolding images_for image_of
  made-chosen chosen o m =
      let same : 0 + o ≡ o = omega arith in
      let inside : o < length r.source = fixing.inside o (member_mem o r.source_outputs m) in
      sym (rw same at (from_choice g r.source_outputs chosen r.source 0 o inside (rw same m)))

  -- the images of a match's outputs are vertices, so numbers below the slot count
  match_numbers_lem : (images : List ℕ) → MatchFrom g r s images → Numbers (length g.slots) (length r.source_outputs) (output_images r images)
  match_numbers_lem images from = record {
    size = length-map r.source_outputs (image_of images);
    inside = λ i l. rw (map_at (image_of images) r.source_outputs i unused_place unused_place l)
        (vertex-inside g (image_of images (get_or r.source_outputs i unused_place))
        (holds (is_vertex g (image_of images (get_or r.source_outputs i unused_place)))
        (from.is_match.vertices (get_or r.source_outputs i unused_place)
        (fixing.inside (get_or r.source_outputs i unused_place) (mem-at r.source_outputs i unused_place l)))));
  }

  match_first : (images : List ℕ) → MatchFrom g r s images → s ≤ get_or (output_images r images) 0 unused_place
  match_first images from = rw (map_at (image_of images) r.source_outputs 0 unused_place 0 fixing.some) from.first

  -- so they are a choice that is tried, and it succeeds with that match
  pub match_tried : (images : List ℕ) → MatchFrom g r s images → Memᴰ (output_images r images) tried
  match_tried images from =
      mem_choices (length g.slots) (length r.source_outputs) s fixing.some (output_images r images)
      (match_numbers_lem images from) (match_first images from)

  pub match_succeeds : (images : List ℕ) → MatchFrom g r s images → attempt g r (output_images r images) ≡ some images
  match_succeeds images from = (match_attempted g r fixing images).0 from.is_match

  -- where a result comes from: a choice that is tried, and is not after another that succeeds
  source : (best : List ℕ) → least_match g r s ≡ some best
      → (chosen : List ℕ) × Memᴰ chosen tried × (attempt g r chosen ≡ some best)
      × ((other images : List ℕ) → Memᴰ other tried → attempt g r other ≡ some images → NotAfter chosen other)
  unfolding least_match
  source best h = first_least (attempt g r) NotAfter not_after_self tried best
      (sorted-choices (length g.slots) (length r.source_outputs) s) h

  -- a choice that is tried and succeeds gives a match, and its first output's image is at least s
  pub attempt-from : (chosen images : List ℕ) → Memᴰ chosen tried → attempt g r chosen ≡ some images → MatchFrom g r s images
  attempt-from chosen images m h =
      let made = attempt_some g r chosen images h in
      let o : ℕ = get_or r.source_outputs 0 0 in
      let first : position o r.source_outputs ≡ 0 = omega (arith, position_least r.source_outputs 0 0 fixing.some) in
      let image : get_or chosen 0 unused_place ≡ image_of images o =
      ap (λ (i : ℕ). get_or chosen i unused_place) (sym first)
      ∙ made-chosen chosen o (mem_member (mem-at r.source_outputs 0 0 fixing.some))
      ∙ ap (λ (l : List ℕ). image_of l o) (sym made.1) in
      record {
        is_match = made.0;
        first = rw image at (choices_mem (length g.slots) (length r.source_outputs) s fixing.some chosen m).1;
      }

  -- What the search finds is a match, and its first output's image is at least s.
  pub least_match_lem : (images : List ℕ) → least_match g r s ≡ some images → MatchFrom g r s images
  least_match_lem images h = let from = source images h in attempt-from from.0 images from.1 from.2

  -- Where there is a match from s on, the search finds one: trying the choices of output images misses none.
  pub least_found : (images : List ℕ) → MatchFrom g r s images → (best : List ℕ) × (least_match g r s ≡ some best)
  unfolding least_match
  least_found images from =
      first_found (attempt g r) tried (output_images r images) images (match_tried images from) (match_succeeds images from)

  -- What the search finds is the least: no match from s on has output images that come before its own. Outputs need not be distinct.
  pub least_least : (best images : List ℕ) → least_match g r s ≡ some best → MatchFrom g r s images
      → NotAfter (output_images r best) (output_images r images)
  least_least best images h from =
      let n : ℕ = length g.slots in
      let k : ℕ = length r.source_outputs in
      let found = source best h in
      let chosen : List ℕ = found.0 in
      let made = attempt_some g r chosen best found.2 in
      let choice = choices_mem n k s fixing.some chosen found.1 in
      least_values r.source_outputs (image_of best) (image_of images) chosen unused_place choice.0.size
      (λ o m. made-chosen chosen o m ∙ ap (λ (l : List ℕ). image_of l o) (sym made.1))
      (λ j l agree.
      let mix : List ℕ = take j chosen ++ drop j (output_images r images) in
      found.3 mix images
      (mem_choices n k s fixing.some mix
      (numbers_mixed n k chosen (output_images r images) j (omega arith) choice.0 (match_numbers_lem images from))
      (first_mixed s chosen (output_images r images) j (omega (arith, choice.0.size)) choice.1 (match_first images from)))
      (attempt_match g r mix images from.is_match (images-chosen g r fixing images from.is_match mix agree)))

  -- Where the search finds nothing, there is no match from s on: a rewriter that stops there has left no match of the rule.
  pub none_left : least_match g r s ≡ none → (images : List ℕ) → MatchFrom g r s images → ⊥
  none_left h images from =
      let found = least_found images from in
      none-ne-some found.0 (sym h ∙ found.1)

  -- And where there is none, it finds nothing.
  pub none_found : ((images : List ℕ) → MatchFrom g r s images → ⊥) → least_match g r s ≡ none
  none_found never =
      ⊎_elim (λ (e : least_match g r s ≡ none). e)
      (λ (f : (images : List ℕ) × (least_match g r s ≡ some images)). absurd (never f.0 (least_match_lem f.0 f.1)))
      (option_either (least_match g r s))

  -- ---- the least match, by its meaning

  -- What the search finds is the least match,
  pub search_least : (images : List ℕ) → least_match g r s ≡ some images → LeastFrom g r s images
  search_least images h = record {
    from = least_match_lem images h;
    least = λ other from. least_least images other h from;
  }

  -- and the least match is what the search finds: there is no other, since output images fix the whole map.
  pub least_searched : (images : List ℕ) → LeastFrom g r s images → least_match g r s ≡ some images
  least_searched images is =
      let found = least_found images is.from in
      let best : List ℕ = found.0 in
      let from = least_match_lem best found.1 in
      let same : output_images r best ≡ output_images r images =
      not_after_both (output_images r best) (output_images r images) (least_least best images found.1 is.from)
      (is.least best from) in
      found.1
      ∙ ap some (images-fixed g r fixing best from.is_match ∙ ap (images_for g r) same
      ∙ sym (images-fixed g r fixing images is.from.is_match))
