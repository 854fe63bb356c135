-- Every listing is shorter than 65536 bytes; so a text that goes on is, and 44's place is below that.
-- Assumes nothing.
use mathlib.Core.Path.{◌≡◌, refl, ap}
use mathlib.Core.Bool.{Bool, true, false}
use mathlib.Core.List.{List, [], ◌∷◌, ◌++◌}
use mathlib.Core.Logic.{⊎_elim}
use Prim.Native.Nat.{ℕ, zero, suc, ◌+◌, ◌-◌, ◌*◌, ◌/◌, ◌%◌, ◌^◌, ◌≤◌, ◌<◌}
use native.Mathlib.Nat.{pow-suc, mul-suc}
use native.Mathlib.Omega.{arith}
use borrow.Author.Tests.{ltb-true, ltb-false, leb-true}
use lib.Dec.{eqb, ltb, leb}
use lib.IntN.{ℤ, pos, negsuc}
use lib.ListN.{length, get_or, take, length-append}
use lib.Seq.{length-take-le}
use Rattle.definitions.specs.Lists.{all, concat_map}
use Rattle.definitions.specs.Operators.{kind_call, Counts, Row, operators, counts_of, kinds, row_of}
use Rattle.laws.proofs.Lists.{decided, and_left, and_right}
use Rattle.laws.proofs.Operators.{few_inputs_lem}
use Rattle.definitions.specs.Numerals.{digit, digits, decimal, numeral, in_field}
use Rattle.definitions.specs.Sheet.{Line, Sheet, place_field, attribute_field, LineFits, LinesFit, SheetFits, words, word, spaced, joined, operator_text, line_text, opening, out_word, printed}
use Rattle.definitions.specs.Listing.{Begins, Stops, bad_byte, early}
use Rattle.listing.specs.Grammar.{operator_of, most_inputs, attribute_count}
use Rattle.listing.proofs.Digits.{one_digit, last_digit}
use Rattle.listing.proofs.Reach.{within_high}
use Rattle.listing.proofs.Words.{of_shape}

-- a bound of a table's column, from one test of the whole table
column : {A : Type 0} (f : A → ℕ) (limit : ℕ) (d : A) (xs : List A) (k : ℕ) → f d ≤ limit → all (λ x. leb (f x) limit) xs ≡ true
    → f (get_or xs k d) ≤ limit
unfolding all
column f limit d [] k h t = h
column f limit d (x ∷ xs) zero h t = leb-true (f x) limit (and_left (leb (f x) limit) (all (λ y. leb (f y) limit) xs) t)
column f limit d (x ∷ xs) (suc k) h t = column f limit d xs k h (and_right (leb (f x) limit) (all (λ y. leb (f y) limit) xs) t)

-- ---- numbers

few_digits : (places k n : ℕ) → n < 10 ^ suc k → length (digits places n) ≤ suc k
unfolding digits
few_digits zero k n small = omega arith
few_digits (suc places) k n small =
    ⊎_elim (λ (t : ltb n 10 ≡ true). rw (one_digit places n (ltb-true n 10 t)) (omega arith))
    (λ (f : ltb n 10 ≡ false). rw (last_digit places n (ltb-false n 10 f)) (longer places k n (ltb-false n 10 f) small (few_digits places)))
    (decided (ltb n 10))
  where
    longer : (p k2 m : ℕ) → 10 ≤ m → m < 10 ^ suc k2 → ((k3 m2 : ℕ) → m2 < 10 ^ suc k3 → length (digits p m2) ≤ suc k3)
        → length (digits p (m / 10) ++ digit (m % 10) ∷ []) ≤ suc k2
    longer p zero m large few ih = absurd (omega arith)
    longer p (suc k2) m large few ih =
        omega (
          arith,
          length-append (digits p (m / 10)) (digit (m % 10) ∷ []),
          ih k2 (m / 10) (omega (arith, rw (pow-suc 10 (suc k2)) at few)),
        )

place_long : (z : ℤ) → in_field place_field z ≡ true → length (numeral z) ≤ 5
unfolding numeral in_field
place_long (pos n) h = few_digits 10 4 n (omega (arith, within_high 0 n 65535 h))
place_long (negsuc n) h = absurd (omega (arith, ltb-true n 0 h))

attribute_long : (z : ℤ) → in_field attribute_field z ≡ true → length (numeral z) ≤ 11
unfolding numeral in_field
attribute_long (pos n) h = omega (arith, few_digits 10 9 n (omega (arith, within_high 0 n (2 ^ 31 - 1) h)))
attribute_long (negsuc n) h = omega (arith, few_digits 10 9 (suc n) (omega (arith, ltb-true n (2 ^ 31) h)))

-- ---- lists of numbers

module _ (p : ℤ → Bool) (most : ℕ) (long : (z : ℤ) → p z ≡ true → length (numeral z) ≤ most) where
  spaced_long : (zs : List ℤ) → all p zs ≡ true → length (spaced zs) ≤ suc most * length zs
  unfolding spaced concat_map all
  spaced_long [] h = omega arith
  spaced_long (z ∷ zs) h =
      omega (
        arith,
        long z (and_left (p z) (all p zs) h),
        spaced_long zs (and_right (p z) (all p zs) h),
        mul-suc (suc most) (length zs),
        length-append (32 ∷ numeral z) (concat_map (λ y. 32 ∷ numeral y) zs),
      )

  joined_long : (zs : List ℤ) → all p zs ≡ true → length (joined zs) ≤ suc most * length zs
  unfolding joined all
  joined_long [] h = omega arith
  joined_long (z ∷ zs) h =
      omega (
        arith,
        long z (and_left (p z) (all p zs) h),
        spaced_long zs (and_right (p z) (all p zs) h),
        mul-suc (suc most) (length zs),
        length-append (numeral z) (spaced zs),
      )

-- ---- a line

word_long : (kind : ℕ) → length (word kind) ≤ 8
unfolding word words all
word_long kind = column (λ (w : List ℕ). length w) 8 [] words kind (omega arith) refl

operator_long : (kind operator : ℕ) → operator_of kind operator ≡ true → length (operator_text kind operator) ≤ 3
unfolding operator_text operator_of numeral
operator_long kind operator h =
    ⊎_elim (λ (t : eqb kind kind_call ≡ true).
    rw t (omega (arith, few_digits 10 1 operator (omega (arith, within_high 1 operator 14 (rw t at h))))))
    (λ (f : eqb kind kind_call ≡ false). rw f (omega arith))
    (decided (eqb kind kind_call))

-- no line has more inputs or attributes than a record has places
pub inputs_few : (kind operator : ℕ) → most_inputs kind operator ≤ 6
unfolding most_inputs counts_of operators row_of kinds all
inputs_few kind operator =
    ⊎_elim (λ (t : eqb kind kind_call ≡ true).
    rw t (column (λ (x : Counts). x.inputs) 6 _ operators (operator - 1) (omega arith) refl))
    (λ (f : eqb kind kind_call ≡ false). rw f (column (λ (x : Row). x.greatest) 6 _ kinds kind (omega arith) refl))
    (decided (eqb kind kind_call))

pub attributes_few : (kind operator : ℕ) → attribute_count kind operator ≤ 5
unfolding attribute_count counts_of operators row_of kinds all
attributes_few kind operator =
    ⊎_elim (λ (t : eqb kind kind_call ≡ true).
    rw t (column (λ (x : Counts). x.attributes) 5 _ operators (operator - 1) (omega arith) refl))
    (λ (f : eqb kind kind_call ≡ false). rw f (column (λ (x : Row). x.attributes) 5 _ kinds kind (omega arith) refl))
    (decided (eqb kind kind_call))

length_six : (a b c d e f : List ℕ) → length (a ++ b ++ c ++ d ++ e ++ f) ≡ length a + length b + length c + length d + length e + length f
length_six a b c d e f = simp length-append

line_long : (l : Line) → LineFits l → l.slot < 512 → length (line_text l) ≤ 118
unfolding line_text numeral
line_long l fits small =
    let c = of_shape l.kind l.operator (length l.inputs) (length l.attributes) fits.shape in
    omega (
      arith,
      length_six (decimal l.slot) (32 ∷ word l.kind) (operator_text l.kind l.operator) (32 ∷ 91 ∷ joined l.inputs)
          (93 ∷ 32 ∷ 123 ∷ joined l.attributes) (125 ∷ 10 ∷ []),
      few_digits 10 2 l.slot (omega arith),
      word_long l.kind,
      operator_long l.kind l.operator c.operator-known,
      joined_long (in_field place_field) 5 place_long l.inputs fits.inputs,
      few_inputs_lem l.kind l.operator (length l.inputs) (length l.attributes) fits.shape,
      joined_long (in_field attribute_field) 11 attribute_long l.attributes fits.attributes,
      c.count,
      attributes_few l.kind l.operator,
    )

lines_long : (from size : ℕ) (lines : List Line) → size ≤ 512 → LinesFit from size lines
    → length (concat_map line_text lines) ≤ 118 * (size - from)
unfolding LinesFit concat_map
lines_long from size [] small fit = omega arith
lines_long from size (l ∷ lines) small (low, below, fits, rest) =
    omega (
      arith,
      line_long l fits (omega arith),
      lines_long (suc l.slot) size lines small rest,
      length-append (line_text l) (concat_map line_text lines),
    )

-- ---- a listing

pub listing-short : (s : Sheet) → SheetFits s → length (printed s) < 65536
unfolding printed numeral opening out_word
listing-short s fits =
    let few = within_high 1 s.size 512 fits.size in
    omega (
      arith,
      length_six opening (decimal s.size) (10 ∷ concat_map line_text s.lines) out_word (spaced s.outputs) (10 ∷ []),
      few_digits 10 2 s.size (omega arith),
      lines_long 0 s.size s.lines few fits.lines,
      spaced_long (in_field place_field) 5 place_long s.outputs fits.outputs,
      within_high 1 (length s.outputs) 4 fits.count,
    )

pub begins_short : (text : List ℕ) → Begins text → length text < 65536
begins_short text (s, fits, (rest, same)) =
    omega (arith, listing-short s fits, ap length same, length-append text rest)

pub place_small : {text : List ℕ} {at : ℕ} → Stops text at → at < 65536
place_small {text} (bad_byte {at = at} l begins stops) = omega (arith, begins_short (take at text) begins, length-take-le at text (omega arith))
place_small {text} (early begins none_ends) = begins_short text begins
