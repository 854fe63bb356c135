-- A form says which texts can follow, and what each comes to. Reading a byte leaves the form of the rest.
-- Assumes nothing.
use Rattle.std.specs.Prelude.{◌≡◌, true, cond, List, [], ◌∷◌, ◌++◌, ◌⊎◌, ℕ, suc, eqb, ℤ, drop}
use Rattle.std.proofs.Math.Option.{Option, none, some}
use Rattle.definitions.specs.Numerals.{Field, in_field}
use Rattle.listing.specs.Typing.{Typed, is_numeric, pressed, whole, can_go_on, FieldFits, Got, stopped, got}

pub data Form (A : Type 0) : Type 0 where
  -- nothing follows
  ended : A → Form A
  -- this byte
  byte : ℕ → Form A → Form A
  -- this byte and the first form, or the second
  choice : ℕ → Form A → Form A → Form A
  -- the rest of a number, and the form for that number
  number : Field → Typed → (ℤ → Form A) → Form A

-- typing this text completes this number
pub data Completes : Typed → List ℕ → ℤ → Type 0 where
  here : {t : Typed} {z : ℤ} → whole t ≡ some z → Completes t [] z
  more : {t next : Typed} {c : ℕ} {text : List ℕ} {z : ℤ} → is_numeric c ≡ true → pressed t c ≡ some next
      → Completes next text z → Completes t (c ∷ text) z

pub record Numbered (field : Field) (t : Typed) (text : List ℕ) (z : ℤ) (rest : List ℕ) : Type 0 where
  pub typed : List ℕ
  pub completes : Completes t typed z
  pub fits : in_field field z ≡ true
  pub same : text ≡ typed ++ rest

module _ {A : Type 0} where
  -- the text is one of the form, and comes to the value
  abbrev pub Text : Form A → List ℕ → A → Type 0
  Text (ended b) text a = (text ≡ []) × (b ≡ a)
  Text (byte c f) text a = (rest : List ℕ) × (text ≡ c ∷ rest) × Text f rest a
  Text (choice c f g) text a = ((rest : List ℕ) × (text ≡ c ∷ rest) × Text f rest a) ⊎ Text g text a
  Text (number field t f) text a = (z : ℤ) × ((rest : List ℕ) × Numbered field t text z rest × Text (f z) rest a)

  -- after a number's byte: the next form where some number of the field can still come
  unfoldable pub typed_on : Field → (ℤ → Form A) → Option Typed → Option (Form A)
  typed_on field f none = none
  typed_on field f (some t) = cond (can_go_on field t) (some (number field t f)) none

  -- after a byte that is no number's: what the form behind the number says, where the number may end
  unfoldable pub typed_off : Field → (ℤ → Option (Form A)) → Option ℤ → Option (Form A)
  typed_off field step none = none
  typed_off field step (some z) = let next = step z in cond (in_field field z) next none

  -- the form of the rest after one byte, or none where no text of the form has that byte first
  unfoldable pub step : Form A → ℕ → Option (Form A)
  step (ended a) c = none
  step (byte b f) c = cond (eqb c b) (some f) none
  step (choice b f g) c = let other = step g c in cond (eqb c b) (some f) other
  step (number field t f) c =
      let off = typed_off field (λ z. step (f z) c) (whole t) in
      cond (is_numeric c) (typed_on field f (pressed t c)) off

  -- the value where the text may end here
  unfoldable pub value_of : Form A → Option A
  value_of (ended a) = some a
  value_of (byte b f) = none
  value_of (choice b f g) = none
  value_of (number field t f) = none

  unfoldable pub steps : Form A → List ℕ → Option (Form A)
  steps f [] = some f
  steps f (c ∷ text) = elim (step f c) [
    | none ↦ none
    | some g ↦ steps g text
  ]

  -- Every form that can come of it has a text, and a byte belongs to one part of it only.
  abbrev pub Lives : Form A → Type 0
  Lives (ended a) = Unit {0}
  Lives (byte c f) = Lives f
  Lives (choice c f g) = Lives f × Lives g × (step g c ≡ none) × (value_of g ≡ none)
  Lives (number field t f) =
      FieldFits field × (can_go_on field t ≡ true) × ((z : ℤ) → in_field field z ≡ true → Lives (f z))
      × ((z : ℤ) → (c : ℕ) → is_numeric c ≡ true → step (f z) c ≡ none)
      × ((z : ℤ) → value_of (f z) ≡ none)

-- what reading a text comes to: the place of the first byte at which it cannot go on, or its length where it ends early; or its value
pub data Answer (A : Type 0) : Type 0 where
  stops_at : ℕ → Answer A
  comes_to : A → Answer A

module _ {A : Type 0} where
  unfoldable pub answer_from : Form A → ℕ → List ℕ → Answer A
  answer_from f at [] = elim (value_of f) [
    | none ↦ stops_at at
    | some a ↦ comes_to a
  ]
  answer_from f at (c ∷ text) = elim (step f c) [
    | none ↦ stops_at at
    | some g ↦ answer_from g (suc at) text
  ]

-- the answer goes on behind a part, in the text from that place on
module _ {A B : Type 0} where
  unfoldable pub go_on : (A → Form B) → List ℕ → Got A → Answer B
  go_on f whole (stopped at) = stops_at at
  go_on f whole (got a at) = answer_from (f a) at (drop at whole)
