-- The least match of several rules, found by searching with one rule after the other: it is the least match of its own rule, no rule's least
-- match comes before it, and with one more rule it is the earlier of the two.
-- Assumes nothing.
use mathlib.Core.Path.{◌≡◌, refl, sym, ap, ap₂, ◌∙◌, subst}
use mathlib.Core.Bool.{true, false, ◌&&◌, or-true, false≢true}
use mathlib.Core.List.Memᴰ
use mathlib.Core.List.{List, [], ◌∷◌, ◌++◌, Memᴰ}
use mathlib.Core.Logic.{inl, inr, ⊎_elim}
use mathlib.Core.Option.{Option, none, some, none-ne-some}
use Prim.Native.Nat.{ℕ}
use borrow.Author.Tests.{ltb-true, lt-ltb, eqb-true, eq-eqb}
use lib.Dec.{eqb, ltb}
use lib.ListN.{length}
use Rattle.definitions.specs.Lists.{first_some}
use Rattle.definitions.specs.Graph.{Graph}
use Rattle.definitions.specs.Rule.{Rule}
use Rattle.definitions.specs.Match.{output_images, NotAfter, choices, least_match}
use Rattle.definitions.specs.Widths.{Found, found_by, attempt_of, attempt_all, least_of}
use Rattle.laws.proofs.Lists.{decided, fails, and_left, and_right, option_either}
use Rattle.theory.proofs.Choices.{not_after_self, not_after_both, Sorted, first_none, first_some_lem, first_least, sorted-choices}
use Rattle.theory.proofs.Least.{least_match_lem, least_searched}
use Rattle.variadic.specs.Search.{not_after, found_outputs, earlier}
use Rattle.variadic.proofs.Least.{Searched, images_are, least_among, least_of_one}

-- ---- what computes is the order

pub only_not_after : (xs ys : List ℕ) → not_after xs ys ≡ true → NotAfter xs ys
unfolding not_after
only_not_after [] ys h = tt
only_not_after (x ∷ xs) [] h = absurd (false≢true h)
only_not_after (x ∷ xs) (y ∷ ys) h =
    ⊎_elim (λ (t : ltb x y ≡ true). inl (ltb-true x y t))
    (λ (t : ltb x y ≡ false).
    let same : (eqb x y && not_after xs ys) ≡ true = simp t at h in
    inr (eqb-true x y (and_left (eqb x y) (not_after xs ys) same), only_not_after xs ys (and_right (eqb x y) (not_after xs ys) same)))
    (decided (ltb x y))

pub every_not_after : (xs ys : List ℕ) → NotAfter xs ys → not_after xs ys ≡ true
unfolding not_after
every_not_after [] ys h = refl
every_not_after (x ∷ xs) [] h = absurd h
every_not_after (x ∷ xs) (y ∷ ys) (inl l) = simp (lt-ltb x y l)
every_not_after (x ∷ xs) (y ∷ ys) (inr h) = simp (eq-eqb x y h.0, every_not_after xs ys h.1, or-true)

-- ---- the earlier of two

kept : (f : Found) (o : Option Found) → ((h : Found) → o ≡ some h → NotAfter (found_outputs f) (found_outputs h)) → earlier (some f) o ≡ some f
unfolding earlier
kept f none before = refl
kept f (some h) before = simp (every_not_after (found_outputs f) (found_outputs h) (before h refl))

taken : (o : Option Found) (h : Found) → ((f : Found) → o ≡ some f → NotAfter (found_outputs f) (found_outputs h) → ⊥)
    → earlier o (some h) ≡ some h
unfolding earlier
taken none h after = refl
taken (some f) h after =
    simp (fails {b = not_after (found_outputs f) (found_outputs h)} (λ t. after f refl (only_not_after (found_outputs f) (found_outputs h) t)))

-- ---- two searches through the same choices; for one choice, what the first gives is asked first

-- what a search gives for a choice has that choice as its output images
abbrev Gives : (List ℕ → Option Found) → List (List ℕ) → Type 0
Gives a cs = (c : List ℕ) (f : Found) → Memᴰ c cs → a c ≡ some f → found_outputs f ≡ c

module _ (a b both : List ℕ → Option Found) (asked : (c : List ℕ) (f : Found) → a c ≡ some f → both c ≡ some f)
    (passed : (c : List ℕ) → a c ≡ none → both c ≡ b c) where
  module _ (c : List ℕ) (cs : List (List ℕ)) (sorted : Sorted NotAfter (c ∷ cs)) (gives-a : Gives a (c ∷ cs)) (gives_b : Gives b (c ∷ cs)) where
    -- the first choice is not after any of them
    first_of : (z : List ℕ) → Memᴰ z (c ∷ cs) → NotAfter c z
    first_of z m = ⊎_elim (λ (same : z ≡ c). subst (NotAfter c) (sym same) (not_after_self c)) (λ (k : Memᴰ z cs). sorted.0 z k)
        (Memᴰ.cases_cons m)

    keeps : (f : Found) → a c ≡ some f → first_some both (c ∷ cs) ≡ earlier (first_some a (c ∷ cs)) (first_some b (c ∷ cs))
    keeps f e =
        first_some_lem both c cs (asked c f e)
        ∙ sym (ap (λ (o : Option Found). earlier o (first_some b (c ∷ cs))) (first_some_lem a c cs e)
        ∙ kept f (first_some b (c ∷ cs)) (λ h found.
        let from = first_least b NotAfter not_after_self (c ∷ cs) h sorted found in
        rw (gives-a c f (Memᴰ.head refl) e, gives_b from.0 h from.1 from.2) (first_of from.0 from.1)))

    takes : (h : Found) → a c ≡ none → b c ≡ some h → first_some both (c ∷ cs) ≡ earlier (first_some a (c ∷ cs)) (first_some b (c ∷ cs))
    takes h e d =
        first_some_lem both c cs (passed c e ∙ d)
        ∙ sym (ap₂ earlier (first_none a c cs e) (first_some_lem b c cs d)
        ∙ taken (first_some a cs) h (λ f found before.
        let from = first_least a NotAfter not_after_self cs f sorted.1 found in
        let back : NotAfter from.0 c =
        rw (gives-a from.0 f (Memᴰ.tail from.1) from.2, gives_b c h (Memᴰ.head refl) d) at before in
        let same : c ≡ from.0 = not_after_both c from.0 (sorted.0 from.0 from.1) back in
        none-ne-some f (sym e ∙ ap a same ∙ from.2)))

  first_both : (cs : List (List ℕ)) → Sorted NotAfter cs → Gives a cs → Gives b cs → first_some both cs ≡ earlier (first_some a cs) (first_some b cs)
  unfolding first_some earlier
  first_both [] sorted gives-a gives_b = refl
  first_both (c ∷ cs) sorted gives-a gives_b =
      ⊎_elim (λ (e : a c ≡ none).
      ⊎_elim (λ (d : b c ≡ none).
      first_none both c cs (passed c e ∙ d)
      ∙ first_both cs sorted.1 (λ x f m. gives-a x f (Memᴰ.tail m)) (λ x f m. gives_b x f (Memᴰ.tail m))
      ∙ sym (ap₂ earlier (first_none a c cs e) (first_none b c cs d)))
      (λ (d : (h : Found) × (b c ≡ some h)). takes c cs sorted gives-a gives_b d.0 e d.1)
      (option_either (b c)))
      (λ (e : (f : Found) × (a c ≡ some f)). keeps c cs sorted gives-a gives_b e.0 e.1)
      (option_either (a c))

-- ---- the rules of two lists, tried in turn

module _ (g : Graph) (others : List Rule) (chosen : List ℕ) where
  append_some : (rules : List Rule) (f : Found) → attempt_all g rules chosen ≡ some f → attempt_all g (rules ++ others) chosen ≡ some f
  unfolding attempt_all
  append_some [] f h = absurd (unfold first_some in none-ne-some f h)
  append_some (r ∷ rules) f h =
      let one = attempt_of g chosen in
      ⊎_elim (λ (e : one r ≡ none). first_none one r (rules ++ others) e ∙ append_some rules f (sym (first_none one r rules e) ∙ h))
      (λ (e : (w : Found) × (one r ≡ some w)). first_some_lem one r (rules ++ others) e.1 ∙ sym (first_some_lem one r rules e.1) ∙ h)
      (option_either (one r))

  append_none : (rules : List Rule) → attempt_all g rules chosen ≡ none → attempt_all g (rules ++ others) chosen ≡ attempt_all g others chosen
  unfolding attempt_all
  append_none [] h = refl
  append_none (r ∷ rules) h =
      let one = attempt_of g chosen in
      ⊎_elim (λ (e : one r ≡ none). first_none one r (rules ++ others) e ∙ append_none rules (sym (first_none one r rules e) ∙ h))
      (λ (e : (w : Found) × (one r ≡ some w)). absurd (none-ne-some e.0 (sym h ∙ first_some_lem one r rules e.1)))
      (option_either (one r))

-- ---- the laws of such a search

module _ (g : Graph) (k s : ℕ) where
  none_tried : (cs : List (List ℕ)) → first_some (attempt_all g []) cs ≡ none
  unfolding first_some attempt_all
  none_tried [] = refl
  none_tried (c ∷ cs) = none_tried cs

  -- With no rule there is no match.
  pub least_of_none : least_of g [] k s ≡ none
  unfolding least_of
  least_of_none = none_tried (choices (length g.slots) k s)

  module _ (rules : List Rule) (each : (r : Rule) → Memᴰ r rules → Searched k r) where
    -- What two lists of rules give together is the earlier of what each gives.
    pub least_of_both : (others : List Rule) → ((r : Rule) → Memᴰ r others → Searched k r)
        → least_of g (rules ++ others) k s ≡ earlier (least_of g rules k s) (least_of g others k s)
    unfolding least_of
    least_of_both others all =
        first_both (attempt_all g rules) (attempt_all g others) (attempt_all g (rules ++ others))
        (λ c f. append_some g others c rules f) (λ c. append_none g others c rules)
        (choices (length g.slots) k s) (sorted-choices (length g.slots) k s)
        (images_are g rules k s each) (images_are g others k s all)

    -- So one rule more changes what was found to the earlier of that and its own least match.
    pub least_of_more : (r : Rule) → Searched k r
        → least_of g (rules ++ r ∷ []) k s ≡ earlier (least_of g rules k s) (found_by r (least_match g r s))
    least_of_more r one =
        least_of_both (r ∷ []) (λ x m. subst (Searched k) (sym (Memᴰ.eq_of_singleton m)) one)
        ∙ ap (earlier (least_of g rules k s)) (rw one.count at (least_of_one g r s))

    module _ (f : Found) (found : least_of g rules k s ≡ some f) where
      -- What is found is the least match of its own rule,
      pub least_of_own : least_match g f.rule s ≡ some f.images
      least_of_own =
          let among = least_among g rules k s each f found in
          least_searched g f.rule (each f.rule among.one).fixing s f.images
          (record { from = among.from; least = λ other from. among.least f.rule other among.one from })

      -- and no rule's least match comes before it.
      pub least_of_each : (r : Rule) (images : List ℕ) → Memᴰ r rules → least_match g r s ≡ some images
          → NotAfter (found_outputs f) (output_images r images)
      least_of_each r images mem h =
          (least_among g rules k s each f found).least r images mem (least_match_lem g r (each r mem).fixing s images h)
