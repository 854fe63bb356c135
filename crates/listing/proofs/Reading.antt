-- Reading a form byte by byte: a byte is refused exactly where no text of the form has it next, and every form that is left has a text.
-- Assumes nothing.
use mathlib.Core.Path.{◌≡◌, refl, sym, ap, ◌∙◌}
use mathlib.Core.Bool.{true, false}
use mathlib.Core.List.{List, [], ◌∷◌, ◌++◌}
use mathlib.Core.Logic.{◌⊎◌, inl, inr, ⊎_elim}
use mathlib.Core.Option.{Option, none, some}
use Prim.Native.Nat.{ℕ}
use native.Mathlib.Omega.{arith}
use borrow.Author.Tests.{eqb-true, eq-eqb}
use lib.Dec.{eqb}
use lib.IntN.{ℤ}
use Rattle.laws.proofs.Lists.{decided, option_either}
use Rattle.definitions.specs.Numerals.{Field, in_field}
use Rattle.listing.specs.Typing.{Typed, is_numeric, pressed, whole, can_go_on, FieldFits}
use Rattle.listing.specs.Forms.{Form, ended, byte, choice, number, Completes, here, more, Text, typed_on, typed_off, step, value_of, steps, Lives}
use Rattle.listing.proofs.Completing.{comes, number-goes_on, goes_on_number}

-- none is not some
pub not_some : {B : Type 0} {b : B} → none ≡ some b → ⊥
not_some {B} {b} e = let x : ◌≡◌ {A = ℕ} 0 1 = cc in omega arith

-- a list with an element is not empty
pub not_empty : {B : Type 0} {b : B} {bs : List B} → b ∷ bs ≡ [] → ⊥
not_empty {B} {b} {bs} e = let x : ◌≡◌ {A = ℕ} 0 1 = cc in omega arith

module _ {A : Type 0} where
  -- ---- a text's first byte is read

  abbrev Stepped : Form A → ℕ → List ℕ → A → Type 0
  Stepped f c text a = (g : Form A) × (step f c ≡ some g) × Text g text a

  module _ (field : Field) (fits : FieldFits field) (f : ℤ → Form A) (separate : (z : ℤ) (c : ℕ) → is_numeric c ≡ true → step (f z) c ≡ none)
      (c : ℕ) (text : List ℕ) (a : A) where
    number_read : {t : Typed} {typed : List ℕ} {z : ℤ} → Completes t typed z → in_field field z ≡ true → (rest : List ℕ)
        → c ∷ text ≡ typed ++ rest → Text (f z) rest a → (Text (f z) (c ∷ text) a → Stepped (f z) c text a) → Stepped (number field t f) c text a
    unfolding step typed_on typed_off
    number_read {t} (here {z = z} e) inside rest same follows ih =
        let (g, stepped, after) = ih (rw (← same) at follows) in
        ⊎_elim (λ (n : is_numeric c ≡ true). absurd (not_some (sym (separate z c n) ∙ stepped)))
        (λ (n : is_numeric c ≡ false). (g, rw (n, e, inside) stepped, after))
        (decided (is_numeric c))
    number_read {t} (more {next = next} {c = b} {text = typed} {z = z} numeric e completes) inside rest same follows ih =
        let first : c ≡ b = cc in
        let rest_same : text ≡ typed ++ rest = cc in
        let goes = number-goes_on field fits next z (comes completes) inside in (
          number field next f,
          rw (first, numeric, e, goes),
          (z, (rest, record { typed = typed; completes = completes; fits = inside; same = rest_same }, follows)),
        )

  pub step-text : (f : Form A) → Lives f → (c : ℕ) (text : List ℕ) (a : A) → Text f (c ∷ text) a → Stepped f c text a
  unfolding step
  step-text (ended b) lives c text a h = absurd (not_empty h.0)
  step-text (byte b f) lives c text a h =
      let (rest, same, follows) = h in
      let first : c ≡ b = cc in
      let rest_same : rest ≡ text = cc in
      (f, rw (eq-eqb c b first), rw rest_same at follows)
  step-text (choice b f g) lives c text a (inl h) =
      let (rest, same, follows) = h in
      let first : c ≡ b = cc in
      let rest_same : rest ≡ text = cc in
      (f, rw (eq-eqb c b first), rw rest_same at follows)
  step-text (choice b f g) lives c text a (inr h) =
      let (next, stepped, after) = step-text g lives.1 c text a h in
      ⊎_elim (λ (t : eqb c b ≡ true).
      let nowhere : step g c ≡ none = rw (eqb-true c b t) lives.2 in
      absurd (not_some (sym nowhere ∙ stepped)))
      (λ (t : eqb c b ≡ false). (next, rw t stepped, after))
      (decided (eqb c b))
  step-text (number field t f) lives c text a h =
      let (z, (rest, numbered, follows)) = h in
      number_read field lives.0 f lives.3 c text a numbered.completes numbered.fits rest numbered.same follows
      (step-text (f z) (lives.2 z numbered.fits) c text a)

  -- ---- and what follows a byte that is read, follows it in a text

  typed_text_lem : (field : Field) (t : Typed) (f : ℤ → Form A) (c : ℕ) (text : List ℕ) (a : A) (next : Option Typed) (g : Form A)
      → is_numeric c ≡ true → pressed t c ≡ next → typed_on field f next ≡ some g → Text g text a → Text (number field t f) (c ∷ text) a
  unfolding typed_on
  typed_text_lem field t f c text a none g numeric e h follows = absurd (not_some h)
  typed_text_lem field t f c text a (some next) g numeric e h follows =
      ⊎_elim (λ (goes : can_go_on field next ≡ true).
      let is : number field next f ≡ g = let h2 : some (number field next f) ≡ some g = rw goes at h in cc in
      let inside : Text (number field next f) text a = rw (← is) at follows in
      let (z, (rest, numbered, after)) = inside in (
        z,
        (
          rest,
          record {
            typed = c ∷ numbered.typed;
            completes = more numeric e numbered.completes;
            fits = numbered.fits;
            same = ap (λ (xs : List ℕ). c ∷ xs) numbered.same;
          },
          after,
        ),
      ))
      (λ (stops : can_go_on field next ≡ false). absurd (not_some (rw stops at h)))
      (decided (can_go_on field next))

  ended_text : (field : Field) (t : Typed) (f : ℤ → Form A) (c : ℕ) (text : List ℕ) (a : A) (z : Option ℤ) (g : Form A)
      → whole t ≡ z → typed_off field (λ y. step (f y) c) z ≡ some g
      → ((y : ℤ) → step (f y) c ≡ some g → Text (f y) (c ∷ text) a) → Text (number field t f) (c ∷ text) a
  unfolding typed_off
  ended_text field t f c text a none g e h ih = absurd (not_some h)
  ended_text field t f c text a (some z) g e h ih =
      ⊎_elim (λ (inside : in_field field z ≡ true).
      (z, (c ∷ text, record { typed = []; completes = here e; fits = inside; same = refl }, ih z (rw inside at h))))
      (λ (outside : in_field field z ≡ false). absurd (not_some (rw outside at h)))
      (decided (in_field field z))

  pub text-step : (f g : Form A) (c : ℕ) (text : List ℕ) (a : A) → step f c ≡ some g → Text g text a → Text f (c ∷ text) a
  unfolding step
  text-step (ended b) g c text a h follows = absurd (not_some h)
  text-step (byte b f) g c text a h follows =
      ⊎_elim (λ (t : eqb c b ≡ true).
      let h2 : some f ≡ some g = rw t at h in
      let is : g ≡ f = cc in
      (text, ap (λ (x : ℕ). x ∷ text) (eqb-true c b t), rw is at follows))
      (λ (t : eqb c b ≡ false). absurd (not_some (rw t at h)))
      (decided (eqb c b))
  text-step (choice b f other) g c text a h follows =
      ⊎_elim (λ (t : eqb c b ≡ true).
      let h2 : some f ≡ some g = rw t at h in
      let is : g ≡ f = cc in
      inl (text, ap (λ (x : ℕ). x ∷ text) (eqb-true c b t), rw is at follows))
      (λ (t : eqb c b ≡ false). inr (text-step other g c text a (rw t at h) follows))
      (decided (eqb c b))
  text-step (number field t f) g c text a h follows =
      ⊎_elim (λ (n : is_numeric c ≡ true). typed_text_lem field t f c text a (pressed t c) g n refl (rw n at h) follows)
      (λ (n : is_numeric c ≡ false).
      ended_text field t f c text a (whole t) g refl (rw n at h) (λ z stepped. text-step (f z) g c text a stepped follows))
      (decided (is_numeric c))

  -- ---- every form that is left lives

  typed_lives : (field : Field) (t : Typed) (f : ℤ → Form A) (next : Option Typed) (g : Form A)
      → Lives (number field t f) → typed_on field f next ≡ some g → Lives g
  unfolding typed_on
  typed_lives field t f none g lives h = absurd (not_some h)
  typed_lives field t f (some next) g lives h =
      ⊎_elim (λ (goes : can_go_on field next ≡ true).
      let is : number field next f ≡ g = let h2 : some (number field next f) ≡ some g = rw goes at h in cc in
      rw (← is) (lives.0, goes, lives.2, lives.3, lives.4))
      (λ (stops : can_go_on field next ≡ false). absurd (not_some (rw stops at h)))
      (decided (can_go_on field next))

  ended_lives : (field : Field) (f : ℤ → Form A) (c : ℕ) (z : Option ℤ) (g : Form A)
      → typed_off field (λ y. step (f y) c) z ≡ some g
      → ((y : ℤ) → in_field field y ≡ true → step (f y) c ≡ some g → Lives g) → Lives g
  unfolding typed_off
  ended_lives field f c none g h ih = absurd (not_some h)
  ended_lives field f c (some z) g h ih =
      ⊎_elim (λ (inside : in_field field z ≡ true). ih z inside (rw inside at h))
      (λ (outside : in_field field z ≡ false). absurd (not_some (rw outside at h)))
      (decided (in_field field z))

  pub step_lives : (f g : Form A) (c : ℕ) → Lives f → step f c ≡ some g → Lives g
  unfolding step
  step_lives (ended b) g c lives h = absurd (not_some h)
  step_lives (byte b f) g c lives h =
      ⊎_elim (λ (t : eqb c b ≡ true).
      let h2 : some f ≡ some g = rw t at h in
      let is : f ≡ g = cc in rw is at lives)
      (λ (t : eqb c b ≡ false). absurd (not_some (rw t at h)))
      (decided (eqb c b))
  step_lives (choice b f other) g c lives h =
      ⊎_elim (λ (t : eqb c b ≡ true).
      let h2 : some f ≡ some g = rw t at h in
      let is : f ≡ g = cc in rw is at lives.0)
      (λ (t : eqb c b ≡ false). step_lives other g c lives.1 (rw t at h))
      (decided (eqb c b))
  step_lives (number field t f) g c lives h =
      ⊎_elim (λ (n : is_numeric c ≡ true). typed_lives field t f (pressed t c) g lives (rw n at h))
      (λ (n : is_numeric c ≡ false).
      ended_lives field f c (whole t) g (rw n at h) (λ z inside stepped. step_lives (f z) g c (lives.2 z inside) stepped))
      (decided (is_numeric c))

  -- ---- and has a text

  pub lives_text : (f : Form A) → Lives f → (text : List ℕ) × ((a : A) × Text f text a)
  lives_text (ended a) lives = ([], (a, (refl, refl)))
  lives_text (byte b f) lives =
      let (text, (a, h)) = lives_text f lives in
      (b ∷ text, (a, (text, refl, h)))
  lives_text (choice b f g) lives =
      let (text, (a, h)) = lives_text f lives.0 in
      (b ∷ text, (a, inl (text, refl, h)))
  lives_text (number field t f) lives =
      let (z, (typed, completes, inside)) = goes_on_number field lives.0 t lives.1 in
      let (text, (a, h)) = lives_text (f z) (lives.2 z inside) in
      (typed ++ text, (a, (z, (text, record { typed = typed; completes = completes; fits = inside; same = refl }, h))))

  -- ---- a text that ends

  value_ends : (f : ℤ → Form A) (a : A) {t : Typed} {typed : List ℕ} {z : ℤ} → Completes t typed z → (rest : List ℕ) → [] ≡ typed ++ rest
      → Text (f z) rest a → (Text (f z) [] a → value_of (f z) ≡ some a) → value_of (f z) ≡ none → ⊥
  value_ends f a (here e) rest same follows ih ends = not_some (sym ends ∙ ih (rw (← same) at follows))
  value_ends f a (more numeric e completes) rest same follows ih ends = not_empty (sym same)

  pub text-value : (f : Form A) → Lives f → (a : A) → Text f [] a → value_of f ≡ some a
  unfolding value_of
  text-value (ended b) lives a h = ap some h.1
  text-value (byte b f) lives a h = absurd (not_empty (sym h.1))
  text-value (choice b f g) lives a (inl h) = absurd (not_empty (sym h.1))
  text-value (choice b f g) lives a (inr h) = absurd (not_some (sym lives.3 ∙ text-value g lives.1 a h))
  text-value (number field t f) lives a h =
      let (z, (rest, numbered, follows)) = h in
      absurd (value_ends f a numbered.completes rest numbered.same follows (text-value (f z) (lives.2 z numbered.fits) a) (lives.4 z))

  pub value-text : (f : Form A) (a : A) → value_of f ≡ some a → Text f [] a
  unfolding value_of
  value-text (ended b) a h = (refl, cc)
  value-text (byte b f) a h = absurd (not_some h)
  value-text (choice b f g) a h = absurd (not_some h)
  value-text (number field t f) a h = absurd (not_some h)

  -- ---- a whole text, byte by byte

  abbrev pub Left : Form A → List ℕ → List ℕ → A → Type 0
  Left f text rest a = (g : Form A) × (steps f text ≡ some g) × Lives g × Text g rest a

  -- a text that goes on with `rest` is read, and leaves a form that has `rest`
  pub text-steps : (text : List ℕ) (f : Form A) → Lives f → (rest : List ℕ) (a : A) → Text f (text ++ rest) a → Left f text rest a
  unfolding steps
  text-steps [] f lives rest a h = (f, refl, lives, h)
  text-steps (c ∷ text) f lives rest a h =
      let (next, stepped, after) = step-text f lives c (text ++ rest) a h in
      let (g, read, left, ends) = text-steps text next (step_lives f next c lives stepped) rest a after in
      (g, rw (stepped, steps) read, left, ends)

  -- what a read text leaves goes on with it
  pub steps-text : (text : List ℕ) (f g : Form A) → steps f text ≡ some g → (rest : List ℕ) (a : A) → Text g rest a → Text f (text ++ rest) a
  unfolding steps
  steps-text [] f g h rest a ends = let is : g ≡ f = cc in rw is at ends
  steps-text (c ∷ text) f g h rest a ends =
      ⊎_elim (λ (stops : step f c ≡ none). absurd (not_some (rw (stops, steps) at h)))
      (λ (goes : (next : Form A) × (step f c ≡ some next)).
      let (next, stepped) = goes in
      text-step f next c (text ++ rest) a stepped (steps-text text next g (rw (stepped, steps) at h) rest a ends))
      (option_either (step f c))

  pub steps_lives : (text : List ℕ) (f g : Form A) → Lives f → steps f text ≡ some g → Lives g
  unfolding steps
  steps_lives [] f g lives h = let is : f ≡ g = cc in rw is at lives
  steps_lives (c ∷ text) f g lives h =
      ⊎_elim (λ (stops : step f c ≡ none). absurd (not_some (rw (stops, steps) at h)))
      (λ (goes : (next : Form A) × (step f c ≡ some next)).
      let (next, stepped) = goes in
      steps_lives text next g (step_lives f next c lives stepped) (rw (stepped, steps) at h))
      (option_either (step f c))

  -- a text has one value
  pub one_value : (text : List ℕ) (f : Form A) → Lives f → (a b : A) → Text f text a → Text f text b → a ≡ b
  one_value [] f lives a b h k = let p = text-value f lives a h in let q = text-value f lives b k in cc
  one_value (c ∷ text) f lives a b h k =
      let (g, p, after) = step-text f lives c text a h in
      let (g2, q, after2) = step-text f lives c text b k in
      let is : g2 ≡ g = cc in
      one_value text g (step_lives f g c lives p) a b after (rw is at after2)
