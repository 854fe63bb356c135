-- The parts of a listing's form: each lives where what follows it does, and its texts are those that the definition prints.
-- Assumes nothing.
use mathlib.Core.Path.{◌≡◌, refl, sym, ap, ◌∙◌}
use mathlib.Core.Bool.{true, false}
use mathlib.Core.List.{List, [], ◌∷◌, ◌++◌, append_assoc}
use mathlib.Core.Logic.{◌⊎◌, inl, inr, ⊎_elim}
use mathlib.Core.Option.{none}
use Prim.Native.Nat.{ℕ, zero, suc, ◌+◌, ◌-◌, ◌≤◌}
use native.Mathlib.Omega.{arith}
use borrow.Author.Tests.{eqb-true, ltb-true}
use lib.Dec.{eqb}
use lib.IntN.{ℤ, pos, negsuc}
use lib.ListN.{length}
use Rattle.definitions.specs.Lists.{all, concat_map}
use Rattle.laws.proofs.Lists.{decided, true_not_false, and_left, and_right}
use Rattle.definitions.specs.Numerals.{Field, in_field, numeral}
use Rattle.definitions.specs.Sheet.{spaced, joined}
use Rattle.listing.specs.Typing.{nothing, is_numeric, is_digit, can_go_on, FieldFits}
use Rattle.listing.specs.Forms.{Form, byte, number, Text, step, value_of, Lives}
use Rattle.listing.specs.Grammar.{literal, spaced_form, joined_form}
use Rattle.listing.proofs.Reach.{within_high}
use Rattle.listing.proofs.Completing.{TenDigits, numeral_typed, typed_numeral}

-- a number of a field has at most ten digits
field_ten : (field : Field) → FieldFits field → (z : ℤ) → in_field field z ≡ true → TenDigits z
unfolding TenDigits in_field
field_ten field fits (pos n) h = omega (arith, within_high field.low n field.high h, fits.ten_digits)
field_ten field fits (negsuc n) h = omega (arith, ltb-true n field.below h, fits.ten_below)

-- a byte that is no number's
pub other_byte : (c stop : ℕ) → is_numeric stop ≡ false → is_numeric c ≡ true → eqb c stop ≡ false
other_byte c stop no_number numeric =
    ⊎_elim (λ (t : eqb c stop ≡ true). absurd (true_not_false numeric (rw (eqb-true c stop t) no_number)))
    (λ (f : eqb c stop ≡ false). f)
    (decided (eqb c stop))

space_other : is_numeric 32 ≡ false
unfolding is_numeric is_digit
space_other = refl

module _ {A : Type 0} where
  -- a form that no number's byte begins, and that does not end here
  abbrev pub Separate : Form A → Type 0
  Separate f = ((c : ℕ) → is_numeric c ≡ true → step f c ≡ none) × (value_of f ≡ none)

  pub byte_separate : (b : ℕ) (f : Form A) → is_numeric b ≡ false → Separate (byte b f)
  unfolding step value_of
  byte_separate b f other = ((λ c numeric. rw (other_byte c b other numeric)), refl)

  -- ---- a fixed text

  pub literal_lives : (cs : List ℕ) (f : Form A) → Lives f → Lives (literal cs f)
  unfolding literal
  literal_lives [] f lives = lives
  literal_lives (c ∷ cs) f lives = literal_lives cs f lives

  pub text-literal : (cs : List ℕ) (f : Form A) (text : List ℕ) (a : A) → Text (literal cs f) text a
      → (rest : List ℕ) × (text ≡ cs ++ rest) × Text f rest a
  unfolding literal
  text-literal [] f text a h = (text, refl, h)
  text-literal (c ∷ cs) f text a h =
      let (after, same, h2) = h in
      let (rest, same2, h3) = text-literal cs f after a h2 in
      (rest, same ∙ ap (λ (xs : List ℕ). c ∷ xs) same2, h3)

  pub literal-text : (cs : List ℕ) (f : Form A) (text : List ℕ) (a : A) → Text f text a → Text (literal cs f) (cs ++ text) a
  unfolding literal
  literal-text [] f text a h = h
  literal-text (c ∷ cs) f text a h = (cs ++ text, refl, literal-text cs f text a h)

  -- ---- a number

  pub number_lives : (field : Field) (f : ℤ → Form A) → FieldFits field → ((z : ℤ) → in_field field z ≡ true → Lives (f z))
      → ((z : ℤ) → Separate (f z)) → Lives (number field nothing f)
  unfolding can_go_on
  number_lives field f fits lives separate = (fits, refl, lives, (λ z. (separate z).0), λ z. (separate z).1)

  pub text-number : (field : Field) (f : ℤ → Form A) → FieldFits field → (text : List ℕ) (a : A) → Text (number field nothing f) text a
      → (z : ℤ) × ((rest : List ℕ) × (in_field field z ≡ true) × (text ≡ numeral z ++ rest) × Text (f z) rest a)
  text-number field f fits text a h =
      let (z, (rest, numbered, follows)) = h in (
        z,
        (
          rest,
          numbered.fits,
          numbered.same ∙ ap (λ (xs : List ℕ). xs ++ rest) (typed_numeral (field_ten field fits z numbered.fits) numbered.completes),
          follows,
        ),
      )

  pub number-text : (field : Field) (f : ℤ → Form A) → FieldFits field → (z : ℤ) → in_field field z ≡ true → (text : List ℕ) (a : A)
      → Text (f z) text a → Text (number field nothing f) (numeral z ++ text) a
  number-text field f fits z inside text a h =
      (z, (text, record { typed = numeral z; completes = numeral_typed z (field_ten field fits z inside); fits = inside; same = refl }, h))

  -- ---- numbers, each behind a space

  module _ (field : Field) (fits : FieldFits field) (stop : ℕ) (other : is_numeric stop ≡ false) (no_space : eqb stop 32 ≡ false) where
    pub spaced_separate : (least most : ℕ) (f : List ℤ → Form A) → Separate (spaced_form least most field stop f)
    unfolding spaced_form step value_of
    spaced_separate zero zero f = byte_separate stop (f []) other
    spaced_separate (suc least) zero f = byte_separate stop (f []) other
    spaced_separate zero (suc most) f =
        ((λ c numeric. rw (other_byte c stop other numeric, other_byte c 32 space_other numeric)), refl)
    spaced_separate (suc least) (suc most) f = byte_separate 32 _ space_other

    pub spaced_lives : (least most : ℕ) (f : List ℤ → Form A) → ((zs : List ℤ) → Lives (f zs)) → Lives (spaced_form least most field stop f)
    unfolding spaced_form step value_of
    spaced_lives zero zero f lives = lives []
    spaced_lives (suc least) zero f lives = lives []
    spaced_lives zero (suc most) f lives = (
      lives [],
      number_lives field (λ z. spaced_form zero most field stop (λ zs. f (z ∷ zs))) fits (λ z inside. spaced_lives zero most (λ zs. f (z ∷ zs)) (λ zs. lives (z ∷ zs)))
          (λ z. spaced_separate zero most (λ zs. f (z ∷ zs))),
      rw no_space,
      refl,
    )
    spaced_lives (suc least) (suc most) f lives =
        number_lives field (λ z. spaced_form least most field stop (λ zs. f (z ∷ zs))) fits (λ z inside. spaced_lives least most (λ zs. f (z ∷ zs)) (λ zs. lives (z ∷ zs)))
        (λ z. spaced_separate least most (λ zs. f (z ∷ zs)))

    -- what a text of such numbers says
    pub record Spaced (least most : ℕ) (f : List ℤ → Form A) (text : List ℕ) (a : A) : Type 0 where
      pub numbers : List ℤ
      pub rest : List ℕ
      pub few : least ≤ length numbers
      pub many : length numbers ≤ most
      pub inside : all (in_field field) numbers ≡ true
      pub same : text ≡ spaced numbers ++ stop ∷ rest
      pub follows : Text (f numbers) rest a

    -- none, and one more in front
    none_spaced : (most : ℕ) (f : List ℤ → Form A) (text rest : List ℕ) (a : A) → text ≡ stop ∷ rest → Text (f []) rest a → Spaced 0 most f text a
    unfolding all spaced concat_map
    none_spaced most f text rest a same h =
        record { numbers = []; rest = rest; few = omega arith; many = omega arith; inside = refl; same = same; follows = h }

    one_spaced : (least most : ℕ) (f : List ℤ → Form A) (text after : List ℕ) (a : A) (z : ℤ) (rest : List ℕ) → text ≡ 32 ∷ after
        → in_field field z ≡ true → after ≡ numeral z ++ rest → Spaced least most (λ zs. f (z ∷ zs)) rest a → Spaced (suc least) (suc most) f text a
    unfolding all spaced concat_map
    one_spaced least most f text after a z rest same inside same2 h =
        record {
          numbers = z ∷ h.numbers;
          rest = h.rest;
          few = omega (arith, h.few);
          many = omega (arith, h.many);
          inside = simp (inside, h.inside);
          same = same ∙ ap (λ (xs : List ℕ). 32 ∷ xs) (same2 ∙ ap (λ (xs : List ℕ). numeral z ++ xs) h.same
              ∙ sym (append_assoc (numeral z) (spaced h.numbers) (stop ∷ h.rest)));
          follows = h.follows;
        }

    fewer : (least most : ℕ) (f : List ℤ → Form A) (text : List ℕ) (a : A) → Spaced (suc least) most f text a → Spaced least most f text a
    fewer least most f text a h =
        record {
          numbers = h.numbers;
          rest = h.rest;
          few = omega (arith, h.few);
          many = h.many;
          inside = h.inside;
          same = h.same;
          follows = h.follows;
        }

    pub text-spaced : (least most : ℕ) (f : List ℤ → Form A) (text : List ℕ) (a : A) → least ≤ most
        → Text (spaced_form least most field stop f) text a → Spaced least most f text a
    unfolding spaced_form
    text-spaced zero zero f text a l h = none_spaced 0 f text h.0 a h.1 h.2
    text-spaced (suc least) zero f text a l h = absurd (omega arith)
    text-spaced zero (suc most) f text a l (inl h) = none_spaced (suc most) f text h.0 a h.1 h.2
    text-spaced zero (suc most) f text a l (inr h) =
        let (after, same, h2) = h in
        let (z, (rest, inside, same2, h3)) = text-number field (λ z. spaced_form zero most field stop (λ zs. f (z ∷ zs))) fits after a h2 in
        fewer 0 (suc most) f text a
        (one_spaced 0 most f text after a z rest same inside same2 (text-spaced zero most (λ zs. f (z ∷ zs)) rest a (omega arith) h3))
    text-spaced (suc least) (suc most) f text a l h =
        let (after, same, h2) = h in
        let (z, (rest, inside, same2, h3)) = text-number field (λ z. spaced_form least most field stop (λ zs. f (z ∷ zs))) fits after a h2 in
        one_spaced least most f text after a z rest same inside same2 (text-spaced least most (λ zs. f (z ∷ zs)) rest a (omega arith) h3)

    -- and the other way round
    pub spaced-text : (least most : ℕ) (f : List ℤ → Form A) (zs : List ℤ) (rest : List ℕ) (a : A) → least ≤ length zs → length zs ≤ most
        → all (in_field field) zs ≡ true → Text (f zs) rest a → Text (spaced_form least most field stop f) (spaced zs ++ stop ∷ rest) a
    unfolding spaced_form all spaced concat_map
    spaced-text zero zero f [] rest a few many inside h = (rest, refl, h)
    spaced-text zero zero f (z ∷ zs) rest a few many inside h = absurd (omega arith)
    spaced-text (suc least) zero f zs rest a few many inside h = absurd (omega arith)
    spaced-text zero (suc most) f [] rest a few many inside h = inl (rest, refl, h)
    spaced-text zero (suc most) f (z ∷ zs) rest a few many inside h =
        inr (
          numeral z ++ (spaced zs ++ stop ∷ rest),
          ap (λ (xs : List ℕ). 32 ∷ xs) (append_assoc (numeral z) (spaced zs) (stop ∷ rest)),
          number-text field (λ y. spaced_form zero most field stop (λ ys. f (y ∷ ys))) fits z (and_left (in_field field z) (all (in_field field) zs) inside)
              (spaced zs ++ stop ∷ rest) a
              (spaced-text zero most (λ ys. f (z ∷ ys)) zs rest a (omega arith) (omega arith) (and_right (in_field field z) (all (in_field field) zs) inside) h),
        )
    spaced-text (suc least) (suc most) f [] rest a few many inside h = absurd (omega arith)
    spaced-text (suc least) (suc most) f (z ∷ zs) rest a few many inside h = (
      numeral z ++ (spaced zs ++ stop ∷ rest),
      ap (λ (xs : List ℕ). 32 ∷ xs) (append_assoc (numeral z) (spaced zs) (stop ∷ rest)),
      number-text field (λ y. spaced_form least most field stop (λ ys. f (y ∷ ys))) fits z (and_left (in_field field z) (all (in_field field) zs) inside)
          (spaced zs ++ stop ∷ rest) a
          (spaced-text least most (λ ys. f (z ∷ ys)) zs rest a (omega arith) (omega arith) (and_right (in_field field z) (all (in_field field) zs) inside) h),
    )

    -- ---- numbers with spaces between: none, or at least one

    pub joined_lives : (least most : ℕ) (f : List ℤ → Form A) → ((zs : List ℤ) → Lives (f zs)) → Lives (joined_form least most field stop f)
    unfolding joined_form
    joined_lives least zero f lives = lives []
    joined_lives least (suc most) f lives =
        number_lives field (λ z. spaced_form (least - 1) most field stop (λ zs. f (z ∷ zs))) fits
        (λ z inside. spaced_lives (least - 1) most (λ zs. f (z ∷ zs)) (λ zs. lives (z ∷ zs)))
        (λ z. spaced_separate (least - 1) most (λ zs. f (z ∷ zs)))

    pub record Joined (least most : ℕ) (f : List ℤ → Form A) (text : List ℕ) (a : A) : Type 0 where
      pub numbers : List ℤ
      pub rest : List ℕ
      pub few : least ≤ length numbers
      pub many : length numbers ≤ most
      pub inside : all (in_field field) numbers ≡ true
      pub same : text ≡ joined numbers ++ stop ∷ rest
      pub follows : Text (f numbers) rest a

    pub text-joined : (least most : ℕ) (f : List ℤ → Form A) (text : List ℕ) (a : A) → least ≤ most
        → Text (joined_form least most field stop f) text a → Joined least most f text a
    unfolding joined_form joined all
    text-joined least zero f text a l h =
        record { numbers = []; rest = h.0; few = omega arith; many = omega arith; inside = refl; same = h.1; follows = h.2 }
    text-joined least (suc most) f text a l h =
        let (z, (after, inside, same, h2)) = text-number field (λ y. spaced_form (least - 1) most field stop (λ zs. f (y ∷ zs))) fits text a h in
        let s = text-spaced (least - 1) most (λ zs. f (z ∷ zs)) after a (omega arith) h2 in
        record {
          numbers = z ∷ s.numbers;
          rest = s.rest;
          few = omega (arith, s.few);
          many = omega (arith, s.many);
          inside = simp (inside, s.inside);
          same = same ∙ ap (λ (xs : List ℕ). numeral z ++ xs) s.same ∙ sym (append_assoc (numeral z) (spaced s.numbers) (stop ∷ s.rest));
          follows = s.follows;
        }

    pub joined-text : (least most : ℕ) (f : List ℤ → Form A) (zs : List ℤ) (rest : List ℕ) (a : A) → (1 ≤ most → 1 ≤ least)
        → least ≤ length zs → length zs ≤ most
        → all (in_field field) zs ≡ true → Text (f zs) rest a → Text (joined_form least most field stop f) (joined zs ++ stop ∷ rest) a
    unfolding joined_form joined all
    joined-text least zero f [] rest a nonempty few many inside h = (rest, refl, h)
    joined-text least zero f (z ∷ zs) rest a nonempty few many inside h = absurd (omega arith)
    joined-text least (suc most) f [] rest a nonempty few many inside h = absurd (omega (arith, nonempty (omega arith)))
    joined-text least (suc most) f (z ∷ zs) rest a nonempty few many inside h =
        rw (append_assoc (numeral z) (spaced zs) (stop ∷ rest))
        (number-text field (λ y. spaced_form (least - 1) most field stop (λ ys. f (y ∷ ys))) fits z (and_left (in_field field z) (all (in_field field) zs) inside)
        (spaced zs ++ stop ∷ rest) a
        (spaced-text (least - 1) most (λ ys. f (z ∷ ys)) zs rest a (omega arith) (omega arith)
        (and_right (in_field field z) (all (in_field field) zs) inside) h))
