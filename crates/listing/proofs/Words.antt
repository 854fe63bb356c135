-- The words of the kinds, the operator's number, and a line's counts.
-- Assumes nothing.
use mathlib.Core.Path.{◌≡◌, refl, ap, ◌∙◌}
use mathlib.Core.Bool.{true, false, ◌&&◌}
use mathlib.Core.List.{List, [], ◌∷◌, ◌++◌}
use mathlib.Core.Logic.{◌⊎◌, inl, inr, ⊎_elim}
use Prim.Native.Nat.{ℕ, zero, suc, ◌+◌, ◌-◌, ◌≤◌}
use native.Mathlib.Omega.{arith}
use borrow.Author.Tests.{eqb-true, eq-eqb, ltb-true, le-leb}
use lib.Dec.{eqb, leb}
use lib.IntN.{ℤ, pos, negsuc}
use Rattle.definitions.specs.Lists.{within}
use Rattle.definitions.specs.Operators.{kind_call, kind_const, kind_variable, kind_tuple, kind_proj, row_of, kinds, counts_of, shape_fits}
use Rattle.laws.proofs.Lists.{decided, and_left, and_right}
use Rattle.definitions.specs.Numerals.{Field, in_field, numeral}
use Rattle.definitions.specs.Sheet.{word, words, operator_field, operator_text}
use Rattle.listing.specs.Typing.{nothing, FieldFits}
use Rattle.listing.specs.Forms.{Form, byte, number, Text, step, value_of, Lives}
use Rattle.listing.specs.Grammar.{magnitude, literal, word_form, operator_form, operator_of, least_inputs, most_inputs, attribute_count}
use Rattle.listing.proofs.Reach.{within_low, within_high, is_within}
use Rattle.listing.proofs.Pieces.{Separate, text-literal, literal-text, number_lives, text-number, number-text}

-- no kind but the five has a word
kind_cases : (P : ℕ → Type 0) → P kind_const → P kind_variable → P kind_call → P kind_tuple → P kind_proj
    → (kind : ℕ) → within 1 kind 5 ≡ true → P kind
kind_cases P p q r s t zero h = absurd (omega (arith, within_low 1 0 5 h))
kind_cases P p q r s t (suc zero) h = p
kind_cases P p q r s t (suc (suc zero)) h = q
kind_cases P p q r s t (suc (suc (suc zero))) h = r
kind_cases P p q r s t (suc (suc (suc (suc zero)))) h = s
kind_cases P p q r s t (suc (suc (suc (suc (suc zero))))) h = t
kind_cases P p q r s t (suc (suc (suc (suc (suc (suc n)))))) h = absurd (omega (arith, within_high 1 (suc (suc (suc (suc (suc (suc n)))))) 5 h))

module _ {A : Type 0} where
  pub word_lives : (f : ℕ → Form A) → ((kind : ℕ) → within 1 kind 5 ≡ true → Lives (f kind)) → Lives (word_form f)
  unfolding word_form literal step value_of
  word_lives f lives =
      ((lives 1 refl, lives 3 refl, refl, refl), (lives 2 refl, (lives 4 refl, lives 5 refl, refl, refl), refl, refl), refl, refl)

  pub record Worded (f : ℕ → Form A) (text : List ℕ) (a : A) : Type 0 where
    pub kind : ℕ
    pub rest : List ℕ
    pub known : within 1 kind 5 ≡ true
    pub same : text ≡ word kind ++ rest
    pub follows : Text (f kind) rest a

  worded : (f : ℕ → Form A) (kind : ℕ) (text rest : List ℕ) (a : A) → within 1 kind 5 ≡ true → text ≡ word kind ++ rest → Text (f kind) rest a
      → Worded f text a
  worded f kind text rest a known same h = record { kind = kind; rest = rest; known = known; same = same; follows = h }

  pub text-word : (f : ℕ → Form A) (text : List ℕ) (a : A) → Text (word_form f) text a → Worded f text a
  unfolding word_form word words
  text-word f text a (inl (w, e, inl (v, e2, h))) =
      let (rest, e3, h2) = text-literal (110 ∷ 115 ∷ 116 ∷ []) (f kind_const) v a h in
      worded f 1 text rest a refl (e ∙ ap (λ (xs : List ℕ). 99 ∷ xs) (e2 ∙ ap (λ (xs : List ℕ). 111 ∷ xs) e3)) h2
  text-word f text a (inl (w, e, inr h)) =
      let (rest, e3, h2) = text-literal (97 ∷ 108 ∷ 108 ∷ []) (f kind_call) w a h in
      worded f 3 text rest a refl (e ∙ ap (λ (xs : List ℕ). 99 ∷ xs) e3) h2
  text-word f text a (inr (inl (w, e, h))) =
      let (rest, e3, h2) = text-literal (97 ∷ 114 ∷ 105 ∷ 97 ∷ 98 ∷ 108 ∷ 101 ∷ []) (f kind_variable) w a h in
      worded f 2 text rest a refl (e ∙ ap (λ (xs : List ℕ). 118 ∷ xs) e3) h2
  text-word f text a (inr (inr (inl (w, e, h)))) =
      let (rest, e3, h2) = text-literal (117 ∷ 112 ∷ 108 ∷ 101 ∷ []) (f kind_tuple) w a h in
      worded f 4 text rest a refl (e ∙ ap (λ (xs : List ℕ). 116 ∷ xs) e3) h2
  text-word f text a (inr (inr (inr h))) =
      let (rest, e3, h2) = text-literal (112 ∷ 114 ∷ 111 ∷ 106 ∷ []) (f kind_proj) text a h in
      worded f 5 text rest a refl e3 h2

  pub word-text : (f : ℕ → Form A) (rest : List ℕ) (a : A) (kind : ℕ) → within 1 kind 5 ≡ true → Text (f kind) rest a
      → Text (word_form f) (word kind ++ rest) a
  unfolding word_form word words
  word-text f rest a =
      kind_cases (λ kind. Text (f kind) rest a → Text (word_form f) (word kind ++ rest) a)
      (λ h. inl (_, refl, inl (_, refl, literal-text (110 ∷ 115 ∷ 116 ∷ []) (f kind_const) rest a h)))
      (λ h. inr (inl (_, refl, literal-text (97 ∷ 114 ∷ 105 ∷ 97 ∷ 98 ∷ 108 ∷ 101 ∷ []) (f kind_variable) rest a h)))
      (λ h. inl (_, refl, inr (literal-text (97 ∷ 108 ∷ 108 ∷ []) (f kind_call) rest a h)))
      (λ h. inr (inr (inl (_, refl, literal-text (117 ∷ 112 ∷ 108 ∷ 101 ∷ []) (f kind_tuple) rest a h))))
      (λ h. inr (inr (inr (literal-text (112 ∷ 114 ∷ 111 ∷ 106 ∷ []) (f kind_proj) rest a h))))

-- ---- the operator's number

pub operator-fits : FieldFits operator_field
operator-fits = record { some_number = omega arith; ten_digits = omega arith; ten_below = omega arith }

-- a field with no number below 0
pub no_negative : (field : Field) → field.below ≡ 0 → (z : ℤ) → in_field field z ≡ true → z ≡ pos (magnitude z)
unfolding in_field magnitude
no_negative field none_below (pos n) h = refl
no_negative field none_below (negsuc n) h = absurd (omega (arith, ltb-true n field.below h))

pub magnitude_in : (field : Field) → field.below ≡ 0 → (z : ℤ) → in_field field z ≡ true → within field.low (magnitude z) field.high ≡ true
unfolding in_field magnitude
magnitude_in field none_below (pos n) h = h
magnitude_in field none_below (negsuc n) h = absurd (omega (arith, ltb-true n field.below h))

pub in_magnitude : (field : Field) (n : ℕ) → within field.low n field.high ≡ true → in_field field (pos n) ≡ true
unfolding in_field
in_magnitude field n h = h

module _ {A : Type 0} where
  pub operator_lives : (kind : ℕ) (f : ℕ → Form A) → ((operator : ℕ) → Lives (f operator)) → ((operator : ℕ) → Separate (f operator))
      → Lives (operator_form kind f)
  unfolding operator_form
  operator_lives kind f lives separate =
      ⊎_elim (λ (t : eqb kind kind_call ≡ true).
      rw t (number_lives operator_field (λ z. f (magnitude z)) operator-fits (λ z inside. lives (magnitude z)) (λ z. separate (magnitude z))))
      (λ (t : eqb kind kind_call ≡ false). rw t (lives 0))
      (decided (eqb kind kind_call))

  pub record Operated (kind : ℕ) (f : ℕ → Form A) (text : List ℕ) (a : A) : Type 0 where
    pub operator : ℕ
    pub rest : List ℕ
    pub known : operator_of kind operator ≡ true
    pub same : text ≡ operator_text kind operator ++ rest
    pub follows : Text (f operator) rest a

  pub text-operator : (kind : ℕ) (f : ℕ → Form A) (text : List ℕ) (a : A) → Text (operator_form kind f) text a → Operated kind f text a
  unfolding operator_form operator_text operator_of
  text-operator kind f text a h =
      ⊎_elim (λ (t : eqb kind kind_call ≡ true).
      let h2 : Text (byte 32 (number operator_field nothing (λ z. f (magnitude z)))) text a = rw t at h in
      let (after, same, h3) = h2 in
      let (z, (rest, inside, same2, h4)) = text-number operator_field (λ y. f (magnitude y)) operator-fits after a h3 in
      record {
        operator = magnitude z;
        rest = rest;
        known = rw t (magnitude_in operator_field refl z inside);
        same = rw t (same ∙ ap (λ (xs : List ℕ). 32 ∷ xs)
            (same2 ∙ ap (λ (y : ℤ). numeral y ++ rest) (no_negative operator_field refl z inside)));
        follows = h4;
      })
      (λ (t : eqb kind kind_call ≡ false).
      record { operator = 0; rest = text; known = rw t; same = rw t; follows = rw t at h })
      (decided (eqb kind kind_call))

  pub operator-text : (kind : ℕ) (f : ℕ → Form A) (operator : ℕ) (rest : List ℕ) (a : A) → operator_of kind operator ≡ true
      → Text (f operator) rest a → Text (operator_form kind f) (operator_text kind operator ++ rest) a
  unfolding operator_form operator_text operator_of magnitude
  operator-text kind f operator rest a known h =
      ⊎_elim (λ (t : eqb kind kind_call ≡ true).
      rw t (
        numeral (pos operator) ++ rest,
        refl,
        number-text operator_field (λ z. f (magnitude z)) operator-fits (pos operator) (in_magnitude operator_field operator (rw t at known)) rest a h,
      ))
      (λ (t : eqb kind kind_call ≡ false).
      let zero_operator : operator ≡ 0 = eqb-true operator 0 (rw t at known) in
      rw t (rw zero_operator at h))
      (decided (eqb kind kind_call))

-- ---- the counts

rows : (kind : ℕ) → ((row_of kind).least ≤ (row_of kind).greatest) × (1 ≤ (row_of kind).greatest → 1 ≤ (row_of kind).least)
unfolding row_of kinds
rows zero = (omega arith, λ h. omega arith)
rows (suc zero) = (omega arith, λ h. omega arith)
rows (suc (suc zero)) = (omega arith, λ h. omega arith)
rows (suc (suc (suc zero))) = (omega arith, λ h. omega arith)
rows (suc (suc (suc (suc zero)))) = (omega arith, λ h. omega arith)
rows (suc (suc (suc (suc (suc zero))))) = (omega arith, λ h. omega arith)
rows (suc (suc (suc (suc (suc (suc n)))))) = (omega arith, λ h. omega arith)

pub counts_agree : (kind operator : ℕ) → (least_inputs kind operator ≤ most_inputs kind operator)
    × (1 ≤ most_inputs kind operator → 1 ≤ least_inputs kind operator)
unfolding least_inputs most_inputs
counts_agree kind operator =
    ⊎_elim (λ (t : eqb kind kind_call ≡ true). rw t (omega arith, λ h. h))
    (λ (t : eqb kind kind_call ≡ false). rw t (rows kind))
    (decided (eqb kind kind_call))

-- the tables, as the form of a line asks for them
module _ (kind operator n m : ℕ) where
  pub shape_of : within 1 kind 5 ≡ true → operator_of kind operator ≡ true → least_inputs kind operator ≤ n → n ≤ most_inputs kind operator
      → m ≡ attribute_count kind operator → shape_fits kind operator n m ≡ true
  unfolding shape_fits operator_of least_inputs most_inputs attribute_count
  shape_of known op few many count =
      ⊎_elim (λ (t : eqb kind kind_call ≡ true).
      let few2 : (counts_of operator).inputs ≤ n = rw t at few in
      let many2 : n ≤ (counts_of operator).inputs = rw t at many in
      let op2 : within 1 operator 14 ≡ true = rw t at op in
      let count2 : m ≡ (counts_of operator).attributes = rw t at count in
      rw (t, op2, eq-eqb n (counts_of operator).inputs (omega arith), eq-eqb m (counts_of operator).attributes count2))
      (λ (t : eqb kind kind_call ≡ false).
      let few2 : (row_of kind).least ≤ n = rw t at few in
      let many2 : n ≤ (row_of kind).greatest = rw t at many in
      let op2 : eqb operator 0 ≡ true = rw t at op in
      let count2 : m ≡ (row_of kind).attributes = rw t at count in
      rw (
        t,
        le-leb kind 5 (within_high 1 kind 5 known),
        op2,
        is_within (row_of kind).least n (row_of kind).greatest few2 many2,
        eq-eqb m (row_of kind).attributes count2,
      ))
      (decided (eqb kind kind_call))

  pub record Counted : Type 0 where
    pub operator-known : operator_of kind operator ≡ true
    pub few : least_inputs kind operator ≤ n
    pub many : n ≤ most_inputs kind operator
    pub count : m ≡ attribute_count kind operator

  pub of_shape : shape_fits kind operator n m ≡ true → Counted
  unfolding shape_fits operator_of least_inputs most_inputs attribute_count
  of_shape h =
      ⊎_elim (λ (t : eqb kind kind_call ≡ true).
      let h2 : (within 1 operator 14 && eqb n (counts_of operator).inputs && eqb m (counts_of operator).attributes) ≡ true = rw t at h in
      let front = and_left (within 1 operator 14 && eqb n (counts_of operator).inputs) (eqb m (counts_of operator).attributes) h2 in
      let inputs = eqb-true n (counts_of operator).inputs (and_right (within 1 operator 14) (eqb n (counts_of operator).inputs) front) in
      record {
        operator-known = rw t (and_left (within 1 operator 14) (eqb n (counts_of operator).inputs) front);
        few = rw t (omega arith);
        many = rw t (omega arith);
        count = rw t (eqb-true m (counts_of operator).attributes
            (and_right (within 1 operator 14 && eqb n (counts_of operator).inputs) (eqb m (counts_of operator).attributes) h2));
      })
      (λ (t : eqb kind kind_call ≡ false).
      let row = within (row_of kind).least n (row_of kind).greatest in
      let h2 : (leb kind kind_proj && eqb operator 0 && row && eqb m (row_of kind).attributes) ≡ true = rw t at h in
      let front = and_left (leb kind kind_proj && eqb operator 0 && row) (eqb m (row_of kind).attributes) h2 in
      let inside = and_right (leb kind kind_proj && eqb operator 0) row front in
      record {
        operator-known = rw t (and_right (leb kind kind_proj) (eqb operator 0) (and_left (leb kind kind_proj && eqb operator 0) row front));
        few = rw t (within_low (row_of kind).least n (row_of kind).greatest inside);
        many = rw t (within_high (row_of kind).least n (row_of kind).greatest inside);
        count = rw t (eqb-true m (row_of kind).attributes
            (and_right (leb kind kind_proj && eqb operator 0 && row) (eqb m (row_of kind).attributes) h2));
      })
      (decided (eqb kind kind_call))
