-- Reading a form in parts: what reading a number gives, and that the answer of the whole goes on from there.
-- Assumes nothing.
use mathlib.Core.Path.{◌≡◌, refl, sym, ap, ◌∙◌}
use mathlib.Core.Bool.{true, false}
use mathlib.Core.List.{List, [], ◌∷◌}
use mathlib.Core.Logic.{◌⊎◌, ⊎_elim}
use mathlib.Core.Option.{Option, none, some}
use Prim.Native.Nat.{ℕ, suc, ◌-◌}
use native.Mathlib.Numerals.{add-one}
use lib.IntN.{ℤ}
use lib.ListN.{drop}
use lib.Seq.{drop-drop}
use Rattle.laws.proofs.Lists.{decided, option_either}
use Rattle.definitions.specs.Numerals.{Field, in_field}
use Rattle.listing.specs.Typing.{Typed, is_numeric, pressed, whole, can_go_on, going_on, typed_with, stopped, ended_at, number_from}
use Rattle.listing.specs.Forms.{Form, number, typed_on, typed_off, step, value_of, answer_from, go_on}
use Rattle.listing.proofs.Reading.{not_some}
use Rattle.listing.proofs.Listings.{answer_early, answer_stops, answer-goes}

-- ---- the cases of reading a number

module _ (field : Field) (t : Typed) (at c : ℕ) (text : List ℕ) where
  pub number_ends : is_numeric c ≡ false → number_from field t at (c ∷ text) ≡ ended_at field at (whole t)
  unfolding number_from
  number_ends e = rw (e, number_from)

  pub number_stops : is_numeric c ≡ true → typed_with field t c ≡ none → number_from field t at (c ∷ text) ≡ stopped at
  unfolding number_from
  number_stops e f = rw (e, f, number_from)

  pub number-goes : (next : Typed) → is_numeric c ≡ true → typed_with field t c ≡ some next
      → number_from field t at (c ∷ text) ≡ number_from field next (suc at) text
  unfolding number_from
  number-goes next e f = rw (e, f, number_from)

pub drop-next : {A : Type 0} (b : A) (rest : List A) (k : ℕ) (xs : List A) → b ∷ rest ≡ drop k xs → rest ≡ drop (suc k) xs
drop-next b rest k xs e =
    ap (drop 1) e ∙ drop-drop 1 k xs ∙ ap (λ (n : ℕ). drop n xs) (add-one k)

typed_with_lem : (field : Field) (t : Typed) (c : ℕ) → going_on field (pressed t c) ≡ typed_with field t c
unfolding typed_with
typed_with_lem field t c = refl

-- ---- the answer of a form that begins with a number

-- two forms that take the next byte alike have one answer
pub same_step : {A : Type 0} (f g : Form A) (at c : ℕ) (text : List ℕ) → step f c ≡ step g c → answer_from f at (c ∷ text) ≡ answer_from g at (c ∷ text)
same_step {A} f g at c text same =
    ⊎_elim (λ (stops : step g c ≡ none). answer_stops f at c text (same ∙ stops) ∙ sym (answer_stops g at c text stops))
    (λ (goes : (next : Form A) × (step g c ≡ some next)).
    answer-goes f at c text goes.0 (same ∙ goes.1) ∙ sym (answer-goes g at c text goes.0 goes.1))
    (option_either (step g c))

module _ {A : Type 0} (field : Field) (f : ℤ → Form A) where
  -- a byte that is no number's
  step_ends : (t : Typed) (c : ℕ) → is_numeric c ≡ false → step (number field t f) c ≡ typed_off field (λ z. step (f z) c) (whole t)
  unfolding step
  step_ends t c e = rw e

  step_types : (t : Typed) (c : ℕ) → is_numeric c ≡ true → step (number field t f) c ≡ typed_on field f (pressed t c)
  unfolding step
  step_types t c e = rw e

  on_none : (next : Option Typed) → going_on field next ≡ none → typed_on field f next ≡ none
  unfolding going_on typed_on
  on_none none e = refl
  on_none (some t) e =
      ⊎_elim (λ (goes : can_go_on field t ≡ true). absurd (not_some (sym (rw goes at e))))
      (λ (stops : can_go_on field t ≡ false). rw stops)
      (decided (can_go_on field t))

  on_some : (next : Option Typed) (t : Typed) → going_on field next ≡ some t → typed_on field f next ≡ some (number field t f)
  unfolding going_on typed_on
  on_some none t e = absurd (not_some e)
  on_some (some s) t e =
      ⊎_elim (λ (goes : can_go_on field s ≡ true).
      let e2 : some s ≡ some t = rw goes at e in
      let is : s ≡ t = cc in
      rw (goes, is))
      (λ (stops : can_go_on field s ≡ false). absurd (not_some (rw stops at e)))
      (decided (can_go_on field s))

  -- the number ends here
  answer_ends : (t : Typed) (at c : ℕ) (text whole-text : List ℕ) → c ∷ text ≡ drop at whole-text → is_numeric c ≡ false → (z : Option ℤ) → whole t ≡ z
      → answer_from (number field t f) at (c ∷ text) ≡ go_on f whole-text (ended_at field at z)
  unfolding ended_at go_on typed_off
  answer_ends t at c text whole-text here e none is =
      answer_stops (number field t f) at c text (step_ends t c e ∙ ap (typed_off field (λ z. step (f z) c)) is)
  answer_ends t at c text whole-text here e (some z) is =
      ⊎_elim (λ (inside : in_field field z ≡ true).
      rw inside (same_step (number field t f) (f z) at c text
      (step_ends t c e ∙ ap (typed_off field (λ y. step (f y) c)) is ∙ rw inside) ∙ ap (answer_from (f z) at) here))
      (λ (outside : in_field field z ≡ false).
      rw outside (answer_stops (number field t f) at c text
      (step_ends t c e ∙ ap (typed_off field (λ y. step (f y) c)) is ∙ rw outside)))
      (decided (in_field field z))

  pub answer-number : (text : List ℕ) (t : Typed) (at : ℕ) (whole-text : List ℕ) → text ≡ drop at whole-text
      → answer_from (number field t f) at text ≡ go_on f whole-text (number_from field t at text)
  unfolding go_on value_of number_from
  answer-number [] t at whole-text here = answer_early (number field t f) at refl
  answer-number (c ∷ text) t at whole-text here =
      ⊎_elim (λ (numeric : is_numeric c ≡ true).
      ⊎_elim (λ (stops : typed_with field t c ≡ none).
      answer_stops (number field t f) at c text (step_types t c numeric ∙ on_none (pressed t c) (typed_with_lem field t c ∙ stops))
      ∙ ap (go_on f whole-text) (sym (number_stops field t at c text numeric stops)))
      (λ (goes : (next : Typed) × (typed_with field t c ≡ some next)).
      let next = goes.0 in
      answer-goes (number field t f) at c text (number field next f) (step_types t c numeric ∙ on_some (pressed t c) next (typed_with_lem field t c ∙ goes.1))
      ∙ answer-number text next (suc at) whole-text (drop-next c text at whole-text here)
      ∙ ap (go_on f whole-text) (sym (number-goes field t at c text next numeric goes.1)))
      (option_either (typed_with field t c)))
      (λ (other : is_numeric c ≡ false).
      answer_ends t at c text whole-text here other (whole t) refl ∙ ap (go_on f whole-text) (sym (number_ends field t at c text other)))
      (decided (is_numeric c))
