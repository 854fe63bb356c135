-- The fields of what is read.
-- Assumes nothing.
use mathlib.Core.Path.{◌≡◌, refl, sym, ap, subst, ◌∙◌}
use mathlib.Core.Bool.{true, false}
use mathlib.Core.List.{List, [], ◌∷◌, map}
use mathlib.Core.Logic.{⊎_elim}
use Prim.Native.Nat.{ℕ, zero, suc, ◌≤◌, ◌<◌, ◌^◌}
use native.Mathlib.Omega.{arith}
use borrow.Author.Tests.{ltb-true, eqb-true}
use lib.Dec.{eqb}
use lib.IntN.{ℤ, pos, negsuc}
use lib.ListN.{length, get_or, take, length-map}
use Rattle.definitions.specs.Lists.{all, padded}
use Rattle.definitions.specs.Fields.{word_of}
use Rattle.definitions.specs.Operators.{kind_call, operator_count}
use Rattle.definitions.specs.Numerals.{Field, in_field}
use Rattle.definitions.specs.Sheet.{place_field, attribute_field}
use Rattle.laws.proofs.Lists.{decided, and_left, and_right}
use Rattle.laws.proofs.Padded.{length-padded, padded-at}
use Rattle.listing.specs.Typing.{FieldFits}
use Rattle.listing.specs.Parts.{joined_from}
use Rattle.listing.specs.Grammar.{operator_of, joined_form}
use Rattle.listing.proofs.Reach.{within_high}
use Rattle.listing.proofs.Lines.{place-fits, attribute_fits}
use Rattle.listing_numbers.specs.declared.Field as numbers
use Rattle.listing_numbers.specs.State.{field_of}
use Rattle.std.specs.declared.result.Result.{Result}
use Rattle.listing_numbers.specs.declared.Stopped.{Stopped}
use Rattle.listing_lists.specs.declared.Numbers.{Numbers}
use Rattle.listing_lists.specs.Lists.{list_limit, Listed, Holds, place_of, NumbersRead}
use Rattle.listing_lists.proofs.Whole.{joined-read}
use Rattle.listing_lines.specs.Lines.{PlaceWords}

take-front : (n : ℕ) (xs : List ℕ) → length xs ≤ n → take (length xs) (padded n 0 xs) ≡ xs
unfolding padded
take-front n [] l = refl
take-front zero (x ∷ xs) l = absurd (omega arith)
take-front (suc n) (x ∷ xs) l = ap (λ (ys : List ℕ). x ∷ ys) (take-front n xs (omega arith))

-- what a reader of lists asks of a field
abbrev pub Readable : numbers.Field → Type 0
Readable field = FieldFits (field_of field) × ((field.high < 2 ^ 32) × (field.below < 2 ^ 32))

pub places_readable : (field : numbers.Field) → field_of field ≡ place_field → Readable field
places_readable field same = (
  subst FieldFits (sym same) place-fits,
  (subst (λ (f : Field). f.high < 2 ^ 32) (sym same) (omega arith), subst (λ (f : Field). f.below < 2 ^ 32) (sym same) (omega arith)),
)

pub attributes_readable : (field : numbers.Field) → field_of field ≡ attribute_field → Readable field
attributes_readable field same = (
  subst FieldFits (sym same) attribute_fits,
  (subst (λ (f : Field). f.high < 2 ^ 32) (sym same) (omega arith), subst (λ (f : Field). f.below < 2 ^ 32) (sym same) (omega arith)),
)

-- an operator is a byte
pub operator_small : (kind operator : ℕ) → operator_of kind operator ≡ true → operator < 256
unfolding operator_of
operator_small kind operator h =
    ⊎_elim (λ (t : eqb kind kind_call ≡ true). omega (arith, within_high 1 operator operator_count (rw t at h)))
    (λ (f : eqb kind kind_call ≡ false). omega (arith, eqb-true operator 0 (rw f at h)))
    (decided (eqb kind kind_call))

-- the inputs, where the code has the counts and the field
pub inputs_read : (field : numbers.Field) (least most l m : ℕ) (text : List ℕ) (at : ℕ) (r : Result Numbers Stopped) → field_of field ≡ place_field → least ≡ l → most ≡ m
    → Holds (field_of field) most r (joined_from least most (field_of field) 93 text at) → place_of r ≤ length text
    → NumbersRead (joined_form l m place_field 93) place_field m text at r
inputs_read field least most l m text at r same low high holds inside =
    joined-read place_field 93 text l m at r
    (subst (λ (n : ℕ). Holds place_field m r (joined_from n m place_field 93 text at)) low
    (subst (λ (n : ℕ). Holds place_field n r (joined_from least n place_field 93 text at)) high
    (subst (λ (F : Field). Holds F most r (joined_from least most F 93 text at)) same holds)))
    inside

-- ---- what is known of a list that was read

module _ (field : Field) (most : ℕ) (r : Numbers) (zs : List ℤ) (h : Listed field most r zs) (few : most ≤ list_limit) where
  pub listed-length : length r.words ≡ list_limit
  listed-length = ap length h.words ∙ length-padded 0 list_limit (map word_of zs) (omega (arith, length-map zs word_of, h.few))

  pub listed-count : r.count ≤ list_limit
  listed-count = omega (arith, h.count, h.few)

  -- the words without the zeros behind them
  pub listed-words : take r.count r.words ≡ map word_of zs
  listed-words = rw (h.count, h.words, ← length-map zs word_of) (take-front list_limit (map word_of zs) (omega (arith, length-map zs word_of, h.few)))

-- a place is a 16-bit number
small_place : (z : ℤ) → in_field place_field z ≡ true → word_of z < 65536
unfolding in_field word_of
small_place (pos n) h = omega (arith, within_high 0 n 65535 h)
small_place (negsuc n) h = absurd (omega (arith, ltb-true n 0 h))

small_at : (zs : List ℤ) → all (in_field place_field) zs ≡ true → (i : ℕ) → get_or (map word_of zs) i 0 < 65536
unfolding all
small_at [] h i = omega arith
small_at (z ∷ zs) h zero = small_place z (and_left (in_field place_field z) (all (in_field place_field) zs) h)
small_at (z ∷ zs) h (suc i) = small_at zs (and_right (in_field place_field z) (all (in_field place_field) zs) h) i

pub listed-places : (most : ℕ) (r : Numbers) (zs : List ℤ) → Listed place_field most r zs → PlaceWords r.words
listed-places most r zs h i = rw (h.words, padded-at 0 list_limit (map word_of zs) i) (small_at zs h.fits i)
