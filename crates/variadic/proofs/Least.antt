-- The least match of several rules together: what is found is a match of one of them, and none has output images before its own; and
-- one is found where one of them matches. Of one rule it is that rule's least match.
-- Assumes nothing.
use mathlib.Core.Path.{◌≡◌, refl, sym, ap, ◌∙◌, subst}
use mathlib.Core.Bool.{true}
use mathlib.Core.List.{List, [], ◌∷◌, Memᴰ}
use mathlib.Core.Logic.{⊎_elim}
use mathlib.Core.Option.{Option, none, some, some-injective, none-ne-some}
use Prim.Native.Nat.{ℕ, ◌<◌}
use lib.ListN.{length, get_or, length-map}
use lib.Seq.{ext_get_or}
use Rattle.definitions.specs.Lists.{first_some, distinct, position}
use Rattle.definitions.specs.Graph.{unused_place, Graph}
use Rattle.definitions.specs.Rule.{Rule, source_outputs_fit}
use Rattle.definitions.specs.Match.{image_of, MatchFrom, output_images, NotAfter, choices, attempt, least_match}
use Rattle.laws.proofs.Lists.{option_either, needed, map_at}
use Rattle.laws.proofs.Members.{mem_member, mem-at, position-inside, position_at, distinct-places}
use Rattle.theory.proofs.Choices.{not_after_self, Sorted, first_found, first_least, sorted-choices, choices_mem}
use Rattle.theory.proofs.Fixing.{Fixing}
use Rattle.theory.proofs.Least.{attempt_some, made-chosen, match_tried, match_succeeds, attempt-from}
use Rattle.definitions.specs.FixedRule.{SoundFixed}
use Rattle.definitions.specs.Widths.{Found, LeastAmong, found_by, attempt_of, attempt_all, least_of}
use Rattle.rule_sound.proofs.Fixed.{fixing_of}

-- every list is sorted by what always holds
pub any-sorted : {A : Type 0} (xs : List A) → Sorted (λ x y. Unit {0}) xs
any-sorted [] = tt
any-sorted (x ∷ xs) = (λ y m. tt, any-sorted xs)

module _ (g : Graph) (chosen : List ℕ) (r : Rule) where
  attempt_of_lem : (images : List ℕ) → attempt g r chosen ≡ some images → attempt_of g chosen r ≡ some (record { rule = r; images = images })
  unfolding attempt_of found_by
  attempt_of_lem images h = rw h

  pub of_attempt : (f : Found) → attempt_of g chosen r ≡ some f → (r ≡ f.rule) × (attempt g r chosen ≡ some f.images)
  unfolding attempt_of found_by
  of_attempt f h =
      ⊎_elim (λ (e : attempt g r chosen ≡ none). absurd (none-ne-some f (rw e at h)))
      (λ (e : (images : List ℕ) × (attempt g r chosen ≡ some images)).
      let same = some-injective _ f (sym (attempt_of_lem e.0 e.1) ∙ h) in
      (ap (λ (x : Found). x.rule) same, e.1 ∙ ap (λ (x : Found). some x.images) same))
      (option_either (attempt g r chosen))

-- What the search takes from each of its rules: output images fix a match, the outputs are distinct, and there are k of them.
pub record Searched (k : ℕ) (r : Rule) : Type 0 where
  pub fixing : Fixing r
  pub apart : distinct r.source_outputs ≡ true
  pub count : length r.source_outputs ≡ k

-- a sound rule is such a one
pub searched_of : (limit k : ℕ) (r : Rule) → SoundFixed limit r → length r.source_outputs ≡ k → Searched k r
unfolding source_outputs_fit
searched_of limit k r s count = record {
  fixing = fixing_of limit r s;
  apart = needed (distinct r.source_outputs) s.outputs (λ e. simp e);
  count = count;
}

module _ (g : Graph) (rules : List Rule) (k s : ℕ) (each : (r : Rule) → Memᴰ r rules → Searched k r) where
  abbrev pub choices_tried : List (List ℕ)
  choices_tried = choices (length g.slots) k s

  -- what a choice gives, where one of the rules matches for it
  pub attempt_origin : (chosen : List ℕ) (f : Found) → attempt_all g rules chosen ≡ some f
      → Memᴰ f.rule rules × (attempt g f.rule chosen ≡ some f.images)
  unfolding attempt_all
  attempt_origin chosen f h =
      let inner = first_least (attempt_of g chosen) (λ x y. Unit {0}) (λ x. tt) rules f (any-sorted rules) h in
      let found = of_attempt g chosen inner.0 f inner.2 in (
        subst (λ (r : Rule). Memᴰ r rules) found.0 inner.1,
        subst (λ (r : Rule). attempt g r chosen ≡ some f.images) found.0 found.1,
      )

  -- the output images of what is found are the choice that was tried: outputs are distinct
  pub images_are : (chosen : List ℕ) (f : Found) → Memᴰ chosen choices_tried → attempt_all g rules chosen ≡ some f
      → output_images f.rule f.images ≡ chosen
  images_are chosen f m h =
      let r : Rule = f.rule in
      let outs : List ℕ = r.source_outputs in
      let from = attempt_origin chosen f h in
      let rule = each r from.0 in
      let tried = choices_mem (length g.slots) (length outs) s rule.fixing.some chosen (rw rule.count m) in
      ext_get_or unused_place (output_images r f.images) chosen (length-map outs (image_of f.images) ∙ sym tried.0.size) (λ i l.
      let inside : i < length outs = rw (length-map outs (image_of f.images)) at l in
      let o : ℕ = get_or outs i 0 in
      let listed = mem_member (mem-at outs i 0 inside) in
      let place : position o outs ≡ i = distinct-places outs 0 (position o outs) i rule.apart (position-inside o outs listed) inside
      (position_at o outs 0 listed) in
      map_at (image_of f.images) outs i unused_place 0 inside
      ∙ ap (λ (l : List ℕ). image_of l o) (attempt_some g r chosen f.images from.1).1
      ∙ sym (made-chosen g r rule.fixing s chosen o listed)
      ∙ ap (λ (j : ℕ). get_or chosen j unused_place) place)

  -- a match of one of the rules is tried, and the choice succeeds
  succeeds : (r : Rule) (images : List ℕ) → Memᴰ r rules → MatchFrom g r s images
      → (w : Found) × (attempt_all g rules (output_images r images) ≡ some w)
  unfolding attempt_all
  succeeds r images mem from =
      first_found (attempt_of g (output_images r images)) rules r (record { rule = r; images = images }) mem
      (attempt_of_lem g (output_images r images) r images (match_succeeds g r (each r mem).fixing s images from))

  is_tried : (r : Rule) (images : List ℕ) → Memᴰ r rules → MatchFrom g r s images → Memᴰ (output_images r images) choices_tried
  is_tried r images mem from = rw (each r mem).count at (match_tried g r (each r mem).fixing s images from)

  -- What is found is the least match of all: none of them, from s on, has output images before its own.
  pub least_among : (f : Found) → least_of g rules k s ≡ some f → LeastAmong g rules s f
  unfolding least_of
  least_among f h =
      let outer = first_least (attempt_all g rules) NotAfter not_after_self choices_tried f (sorted-choices (length g.slots) k s) h in
      let found = attempt_origin outer.0 f outer.2 in
      let rule = each f.rule found.0 in
      record {
        one = found.0;
        from = attempt-from g f.rule rule.fixing s outer.0 f.images (rw rule.count outer.1) found.1;
        least = λ r other mem from.
            let w = succeeds r other mem from in
            rw (images_are outer.0 f outer.1 outer.2) (outer.3 (output_images r other) w.0 (is_tried r other mem from) w.1);
      }

  -- Where one of the rules matches, from s on, one is found.
  pub least_of_found : (r : Rule) (images : List ℕ) → Memᴰ r rules → MatchFrom g r s images
      → (f : Found) × (least_of g rules k s ≡ some f)
  unfolding least_of
  least_of_found r images mem from =
      let w = succeeds r images mem from in
      first_found (attempt_all g rules) choices_tried (output_images r images) w.0 (is_tried r images mem from) w.1

-- ---- one rule: version 1

one_step : (r : Rule) (first rest : Option (List ℕ)) (later : Option Found) → later ≡ found_by r rest
    → elim (elim (found_by r first) as (λ (o : Option Found). Option Found) [ none ↦ none | some f ↦ some f ])
    as (λ (o : Option Found). Option Found) [ none ↦ later | some f ↦ some f ]
    ≡ found_by r (elim first as (λ (o : Option (List ℕ)). Option (List ℕ)) [ none ↦ rest | some images ↦ some images ])
unfolding found_by
one_step r none rest later e = e
one_step r (some images) rest later e = refl

one_tried : (g : Graph) (r : Rule) (xs : List (List ℕ)) → first_some (attempt_all g (r ∷ [])) xs ≡ found_by r (first_some (attempt g r) xs)
unfolding first_some attempt_all attempt_of found_by
one_tried g r [] = refl
one_tried g r (x ∷ xs) =
    one_step r (attempt g r x) (first_some (attempt g r) xs) (first_some (attempt_all g (r ∷ [])) xs) (one_tried g r xs)

-- The least match of one rule alone is its least match.
pub least_of_one : (g : Graph) (r : Rule) (s : ℕ)
    → least_of g (r ∷ []) (length r.source_outputs) s ≡ found_by r (least_match g r s)
unfolding least_of least_match
least_of_one g r s = one_tried g r (choices (length g.slots) (length r.source_outputs) s)
