-- Typing a number: what completes it, which numbers can come of what has been typed, and that its text is the numeral.
-- Assumes nothing.
use mathlib.Core.Path.{◌≡◌, refl, sym, ap, ◌∙◌}
use mathlib.Core.Bool.{Bool, true, false, false≢true, ◌&&◌, or-true}
use mathlib.Core.List.{List, [], ◌∷◌, ◌++◌, append-nil}
use mathlib.Core.Logic.{◌⊎◌, ⊎_elim}
use mathlib.Core.Option.{none, some}
use Prim.Native.Nat.{ℕ, zero, suc, ◌+◌, ◌-◌, ◌*◌, ◌/◌, ◌%◌, ◌^◌, ◌<◌, ◌≤◌}
use native.Mathlib.Nat.{pow-suc}
use native.Mathlib.Omega.{arith}
use borrow.Author.Tests.{lt-ltb, ltb-true, ltb-false, eqb-true, eq-eqb}
use lib.Dec.{ltb, eqb}
use lib.Seq.{append_snoc}
use lib.IntN.{ℤ, pos, negsuc}
use Rattle.laws.proofs.Lists.{decided, and_left, and_right}
use Rattle.definitions.specs.Numerals.{minus_sign, digit, digits, decimal, numeral, Field, in_field}
use Rattle.listing.specs.Typing.{Typed, nothing, minus, digits_of, valued, is_digit, is_numeric, pressed, whole, reaches, goes_on, low_of, high_of, can_go_on, FieldFits}
use Rattle.listing.specs.Forms.{Completes, here, more}
use Rattle.listing.proofs.Digits.{one_digit, last_digit, decimal_more}
use Rattle.listing.proofs.Reach.{Continues, same, longer, within_low, within_high, is_within, continues_le, continues_more, reaches_high, reaches-number, number-reaches}

-- ---- bytes

pub digit_numeric : (c : ℕ) → c < 10 → is_numeric (digit c) ≡ true
unfolding is_numeric is_digit
digit_numeric c small = rw (is_within 48 (48 + c) 57 (omega arith) (omega arith)) (or-true (eqb (48 + c) minus_sign))

pub digit_is : (c : ℕ) → c < 10 → is_digit (digit c) ≡ true
unfolding is_digit
digit_is c small = is_within 48 (48 + c) 57 (omega arith) (omega arith)

digit_low : (c : ℕ) → is_digit c ≡ true → 48 ≤ c
unfolding is_digit
digit_low c h = within_low 48 c 57 h

digit_high : (c : ℕ) → is_digit c ≡ true → c ≤ 57
unfolding is_digit
digit_high c h = within_high 48 c 57 h

-- ---- one more digit at the end

press_digit : (sign : Bool) (m c : ℕ) → 1 ≤ m → c < 10 → pressed (digits_of sign m) (digit c) ≡ some (digits_of sign (10 * m + c))
unfolding pressed
press_digit sign m c some-digits small =
    let e : 48 + c - 48 ≡ c = omega arith in
    rw (digit_is c small, lt-ltb 0 m some-digits, e)

whole-digits : (t : Typed) (sign : Bool) (m : ℕ) → 1 ≤ m → whole t ≡ some (valued sign m) → t ≡ digits_of sign m
unfolding whole valued
whole-digits nothing sign m l e = let z : ◌≡◌ {A = ℕ} 0 1 = cc in absurd (omega arith)
whole-digits minus sign m l e = let z : ◌≡◌ {A = ℕ} 0 1 = cc in absurd (omega arith)
whole-digits (digits_of false d) false m l e = cc
whole-digits (digits_of false d) true zero l e = absurd (omega arith)
whole-digits (digits_of false d) true (suc m) l e = let z : ◌≡◌ {A = ℕ} 0 1 = cc in absurd (omega arith)
whole-digits (digits_of true zero) sign m l e = let z : ◌≡◌ {A = ℕ} 0 1 = cc in absurd (omega arith)
whole-digits (digits_of true (suc d)) false m l e = let z : ◌≡◌ {A = ℕ} 0 1 = cc in absurd (omega arith)
whole-digits (digits_of true (suc d)) true zero l e = absurd (omega arith)
whole-digits (digits_of true (suc d)) true (suc m) l e = cc

whole_is : (sign : Bool) (d : ℕ) → (sign ≡ true → 1 ≤ d) → whole (digits_of sign d) ≡ some (valued sign d)
unfolding whole valued
whole_is false d l = refl
whole_is true zero l = absurd (omega (arith, l refl))
whole_is true (suc d) l = refl

module _ (sign : Bool) (m c : ℕ) (l : 1 ≤ m) (small : c < 10) where
  more_here : (t : Typed) → t ≡ digits_of sign m → Completes t (digit c ∷ []) (valued sign (10 * m + c))
  more_here t e =
      rw e (more (digit_numeric c small) (press_digit sign m c l small) (here (whole_is sign (10 * m + c) (λ _. omega arith))))

  pub completes_more : {t : Typed} {text : List ℕ} {z : ℤ} → Completes t text z → z ≡ valued sign m
      → Completes t (text ++ digit c ∷ []) (valued sign (10 * m + c))
  completes_more (here {t = t} e) q = more_here t (whole-digits t sign m l (e ∙ ap some q))
  completes_more (more numeric e rest) q = more numeric e (completes_more rest q)

-- ---- digits that go on to a number can be typed

pub type_on : {d n : ℕ} (sign : Bool) → Continues d n → 1 ≤ d → (text : List ℕ) × Completes (digits_of sign d) text (valued sign n)
type_on {d} sign (same {n = n} e) l = ([], here {t = digits_of sign d} {z = valued sign n} (rw e (whole_is sign d (λ _. l))))
type_on {d} sign (longer {n = n} c) l =
    let (text, typed) = type_on sign c l in
    let large = continues_le c in
    let e : 10 * (n / 10) + n % 10 ≡ n = omega arith in
    let one_more : Completes (digits_of sign d) (text ++ digit (n % 10) ∷ []) (valued sign (10 * (n / 10) + n % 10)) =
    completes_more sign (n / 10) (n % 10) (omega arith) (omega arith) typed refl in
    (text ++ digit (n % 10) ∷ [], rw e at one_more)

-- ---- a numeral, typed from nothing

-- the first digit, and then each one more
type_decimal : (sign : Bool) (start : Typed) → ((d : ℕ) → d < 10 → (sign ≡ true → 1 ≤ d) → pressed start (digit d) ≡ some (digits_of sign d))
    → (places n : ℕ) → n < 10 ^ suc places → (sign ≡ true → 1 ≤ n) → Completes start (digits (suc places) n) (valued sign n)
type_decimal sign start first zero n small nonzero =
    rw (one_digit 0 n (omega arith))
    (more (digit_numeric n (omega arith)) (first n (omega arith) nonzero) (here (whole_is sign n nonzero)))
type_decimal sign start first (suc places) n small nonzero =
    ⊎_elim (λ (t : ltb n 10 ≡ true).
    let few = ltb-true n 10 t in
    rw (one_digit (suc places) n few) (more (digit_numeric n few) (first n few nonzero) (here (whole_is sign n nonzero))))
    (λ (f : ltb n 10 ≡ false).
    let large : 10 ≤ n = ltb-false n 10 f in
    let shorter : n / 10 < 10 ^ suc places = omega (arith, rw (pow-suc 10 (suc places)) at small) in
    let e : 10 * (n / 10) + n % 10 ≡ n = omega arith in
    let front = type_decimal sign start first places (n / 10) shorter (λ _. omega arith) in
    let one_more : Completes start (digits (suc places) (n / 10) ++ digit (n % 10) ∷ []) (valued sign (10 * (n / 10) + n % 10)) =
    completes_more sign (n / 10) (n % 10) (omega arith) (omega arith) front refl in
    rw (last_digit (suc places) n large) (rw e at one_more))
    (decided (ltb n 10))

first-digit : (d : ℕ) → d < 10 → (false ≡ true → 1 ≤ d) → pressed nothing (digit d) ≡ some (digits_of false d)
unfolding pressed
first-digit d small _ = let e : 48 + d - 48 ≡ d = omega arith in rw (digit_is d small, e)

behind_minus : (d : ℕ) → d < 10 → (true ≡ true → 1 ≤ d) → pressed minus (digit d) ≡ some (digits_of true d)
unfolding pressed
behind_minus d small nonzero =
    let e : 48 + d - 48 ≡ d = omega arith in
    let l = nonzero refl in
    rw (digit_is d small, lt-ltb 48 (48 + d) (omega arith), e)

-- a number of at most ten digits
unfoldable pub TenDigits : ℤ → Type 0
TenDigits (pos n) = n < 10 ^ 10
TenDigits (negsuc n) = suc n < 10 ^ 10

minus_numeric : is_numeric 45 ≡ true
unfolding is_numeric
minus_numeric = refl

minus_pressed : pressed nothing 45 ≡ some minus
unfolding pressed is_digit
minus_pressed = refl

pub numeral_typed : (z : ℤ) → TenDigits z → Completes nothing (numeral z) z
unfolding numeral TenDigits valued
numeral_typed (pos n) small =
    type_decimal false nothing first-digit 9 n small (λ e. absurd (false≢true e))
numeral_typed (negsuc n) small = more minus_numeric minus_pressed (type_decimal true minus behind_minus 9 (suc n) small (λ _. omega arith))

-- ---- what can come of what has been typed

unfoldable pub Comes : Typed → ℤ → Type 0
Comes nothing z = Unit {0}
Comes minus z = (n : ℕ) × (z ≡ valued true n) × (1 ≤ n)
Comes (digits_of sign d) z =
    (n : ℕ) × (z ≡ valued sign n) × (d ≡ 0 → n ≡ 0) × (1 ≤ d → Continues d n) × (sign ≡ true → 1 ≤ d)

comes_here : (t : Typed) (z : ℤ) → whole t ≡ some z → Comes t z
unfolding whole Comes valued
comes_here nothing z e = tt
comes_here minus z e = let x : ◌≡◌ {A = ℕ} 0 1 = cc in absurd (omega arith)
comes_here (digits_of false d) z e = (d, cc, (λ q. q), (λ l. same refl), λ q. absurd (false≢true q))
comes_here (digits_of true zero) z e = let x : ◌≡◌ {A = ℕ} 0 1 = cc in absurd (omega arith)
comes_here (digits_of true (suc d)) z e = (suc d, cc, (λ q. q), (λ l. same refl), λ _. omega arith)

-- what a press from a minus, or from digits, leaves
press_minus : (c : ℕ) (next : Typed) → pressed minus c ≡ some next → (next ≡ digits_of true (c - 48)) × (49 ≤ c) × (c ≤ 57)
unfolding pressed
press_minus c next e =
    ⊎_elim (λ (t : (is_digit c && ltb 48 c) ≡ true).
    let e2 : some (digits_of true (c - 48)) ≡ some next = rw t at e in
    (cc, ltb-true 48 c (and_right (is_digit c) (ltb 48 c) t), digit_high c (and_left (is_digit c) (ltb 48 c) t)))
    (λ (f : (is_digit c && ltb 48 c) ≡ false).
    let e2 : none ≡ some next = rw f at e in
    let x : ◌≡◌ {A = ℕ} 0 1 = cc in absurd (omega arith))
    (decided (is_digit c && ltb 48 c))

pub press_digits : (sign : Bool) (d c : ℕ) (next : Typed) → pressed (digits_of sign d) c ≡ some next
    → (next ≡ digits_of sign (10 * d + (c - 48))) × (48 ≤ c) × (c ≤ 57) × (1 ≤ d)
unfolding pressed
press_digits sign d c next e =
    ⊎_elim (λ (t : (is_digit c && ltb 0 d) ≡ true).
    let e2 : some (digits_of sign (10 * d + (c - 48))) ≡ some next = rw t at e in
    let is = and_left (is_digit c) (ltb 0 d) t in
    (cc, digit_low c is, digit_high c is, ltb-true 0 d (and_right (is_digit c) (ltb 0 d) t)))
    (λ (f : (is_digit c && ltb 0 d) ≡ false).
    let e2 : none ≡ some next = rw f at e in
    let x : ◌≡◌ {A = ℕ} 0 1 = cc in absurd (omega arith))
    (decided (is_digit c && ltb 0 d))

comes_more : (t next : Typed) (c : ℕ) (z : ℤ) → pressed t c ≡ some next → Comes next z → Comes t z
unfolding Comes
comes_more nothing next c z e h = tt
comes_more minus next c z e h =
    let (same_next, low, high) = press_minus c next e in
    let h2 : Comes (digits_of true (c - 48)) z = rw same_next at h in
    let (n, is, _, on, _) = h2 in
    (n, is, omega (arith, continues_le (on (omega arith))))
comes_more (digits_of sign d) next c z e h =
    let (same_next, low, high, some-digits) = press_digits sign d c next e in
    let h2 : Comes (digits_of sign (10 * d + (c - 48))) z = rw same_next at h in
    let (n, is, _, on, _) = h2 in
    (n, is, (λ q. absurd (omega arith)), (λ l. continues_more (on (omega arith)) (omega arith)), λ _. some-digits)

pub comes : {t : Typed} {text : List ℕ} {z : ℤ} → Completes t text z → Comes t z
comes (here {t = t} {z = z} e) = comes_here t z e
comes (more {t = t} {next = next} {c = c} {z = z} numeric e rest) = comes_more t next c z e (comes rest)

-- ---- the numbers of a field, by their digits

in_bounds : (field : Field) (sign : Bool) (n : ℕ) → (sign ≡ true → 1 ≤ n) → in_field field (valued sign n) ≡ true
    → (low_of field sign ≤ n) × (n ≤ high_of field sign)
unfolding in_field valued low_of high_of
in_bounds field false n l h = (within_low field.low n field.high h, within_high field.low n field.high h)
in_bounds field true zero l h = absurd (omega (arith, l refl))
in_bounds field true (suc n) l h = (omega arith, ltb-true n field.below h)

bounds_in : (field : Field) (sign : Bool) (n : ℕ) → low_of field sign ≤ n → n ≤ high_of field sign → in_field field (valued sign n) ≡ true
unfolding in_field valued low_of high_of
bounds_in field false n l h = is_within field.low n field.high l h
bounds_in field true zero l h = absurd (omega arith)
bounds_in field true (suc n) l h = lt-ltb n field.below h

high_small : (field : Field) (sign : Bool) → FieldFits field → high_of field sign < 10 ^ 10
unfolding high_of
high_small field false fits = fits.ten_digits
high_small field true fits = fits.ten_below

-- ---- the law: the test holds exactly where some number of the field can still come

pub number-goes_on : (field : Field) → FieldFits field → (t : Typed) (z : ℤ) → Comes t z → in_field field z ≡ true → can_go_on field t ≡ true
unfolding Comes can_go_on goes_on high_of
number-goes_on field fits nothing z h inside = refl
number-goes_on field fits minus z h inside =
    let (n, is, l) = h in
    let (low, high) = in_bounds field true n (λ _. l) (rw is at inside) in
    lt-ltb 0 field.below (omega arith)
number-goes_on field fits (digits_of sign d) z h inside =
    let (n, is, zero-ends, on, nonzero) = h in
    ⊎_elim (λ (t : ltb 0 d ≡ true).
    let l : 1 ≤ d = ltb-true 0 d t in
    let large = continues_le (on l) in
    let (low, high) = in_bounds field sign n (λ _. omega arith) (rw is at inside) in
    rw t (number-reaches (on l) 10 (low_of field sign) (high_of field sign) l low high (high_small field sign fits)))
    (λ (f : ltb 0 d ≡ false).
    let none_typed : d ≡ 0 = omega (arith, ltb-false 0 d f) in
    let nought : n ≡ 0 = zero-ends none_typed in
    let (low, high) = in_bounds field sign n (λ q. absurd (omega (arith, nonzero q))) (rw is at inside) in
    rw f (eq-eqb (low_of field sign) 0 (omega arith)))
    (decided (ltb 0 d))

least_ten : (field : Field) → FieldFits field → TenDigits (pos field.low)
unfolding TenDigits
least_ten field fits = omega (arith, fits.some_number, fits.ten_digits)

least_in : (field : Field) → FieldFits field → in_field field (pos field.low) ≡ true
unfolding in_field
least_in field fits = is_within field.low field.low field.high (omega arith) fits.some_number

one_typed : Completes minus (digit 1 ∷ []) (negsuc 0)
unfolding whole is_numeric pressed is_digit
one_typed = more refl refl (here refl)

minus_one : (field : Field) → can_go_on field minus ≡ true → in_field field (negsuc 0) ≡ true
unfolding in_field can_go_on
minus_one field h = h

-- bounds of a sign that digits can reach
some_bounds : (field : Field) → FieldFits field → (sign : Bool) (d : ℕ) → 1 ≤ d → d ≤ high_of field sign
    → low_of field sign ≤ high_of field sign
unfolding low_of high_of
some_bounds field fits false d l h = fits.some_number
some_bounds field fits true d l h = omega arith

-- a zero that the bounds let stand
nought : (field : Field) → FieldFits field → (sign : Bool) → low_of field sign ≡ 0
    → (z : ℤ) × ((text : List ℕ) × Completes (digits_of sign 0) text z × (in_field field z ≡ true))
unfolding low_of whole in_field
nought field fits false low = (pos 0, ([], here refl, is_within field.low 0 field.high (omega arith) (omega arith)))
nought field fits true low = absurd (omega arith)

pub goes_on_number : (field : Field) → FieldFits field → (t : Typed) → can_go_on field t ≡ true
    → (z : ℤ) × ((text : List ℕ) × Completes t text z × (in_field field z ≡ true))
unfolding can_go_on goes_on
goes_on_number field fits nothing h =
    (pos field.low, (numeral (pos field.low), numeral_typed (pos field.low) (least_ten field fits), least_in field fits))
goes_on_number field fits minus h = (negsuc 0, (digit 1 ∷ [], one_typed, minus_one field h))
goes_on_number field fits (digits_of sign d) h =
    ⊎_elim (λ (t : ltb 0 d ≡ true).
    let l : 1 ≤ d = ltb-true 0 d t in
    let reached : reaches 10 d (low_of field sign) (high_of field sign) ≡ true = rw t at h in
    let (n, low, high, on) = reaches-number 10 d (low_of field sign) (high_of field sign)
    (some_bounds field fits sign d l (reaches_high 10 d (low_of field sign) (high_of field sign) reached)) reached in
    let (text, typed) = type_on sign on l in
    (valued sign n, (text, typed, bounds_in field sign n low high)))
    (λ (f : ltb 0 d ≡ false).
    let none_typed : d ≡ 0 = omega (arith, ltb-false 0 d f) in
    let low : low_of field sign ≡ 0 = eqb-true (low_of field sign) 0 (rw f at h) in
    rw none_typed (nought field fits sign low))
    (decided (ltb 0 d))

-- ---- the text that completes a number is its numeral

unfoldable typed_text : Typed → List ℕ
typed_text nothing = []
typed_text minus = minus_sign ∷ []
typed_text (digits_of false d) = decimal d
typed_text (digits_of true d) = minus_sign ∷ decimal d

signed-text : (sign : Bool) (n : ℕ) → (sign ≡ true → 1 ≤ n) → typed_text (digits_of sign n) ≡ numeral (valued sign n)
unfolding typed_text numeral valued
signed-text false n l = refl
signed-text true zero l = absurd (omega (arith, l refl))
signed-text true (suc n) l = refl

ten_valued : (sign : Bool) (n : ℕ) → TenDigits (valued sign n) → n < 10 ^ 10
unfolding TenDigits valued
ten_valued false n h = h
ten_valued true zero h = omega arith
ten_valued true (suc n) h = h

-- the digits typed so far stand for a number that is no larger
small_enough : (sign : Bool) (d : ℕ) (z : ℤ) → TenDigits z → Comes (digits_of sign d) z → d < 10 ^ 10
unfolding Comes
small_enough sign d z small h =
    let (n, is, zero-ends, on, nonzero) = h in
    let few : n < 10 ^ 10 = ten_valued sign n (rw is at small) in
    ⊎_elim (λ (t : ltb 0 d ≡ true). omega (arith, continues_le (on (ltb-true 0 d t))))
    (λ (f : ltb 0 d ≡ false). omega (arith, ltb-false 0 d f))
    (decided (ltb 0 d))

text-here : (t : Typed) (z : ℤ) → whole t ≡ some z → typed_text t ≡ numeral z
unfolding whole typed_text numeral
text-here nothing z e = let x : ◌≡◌ {A = ℕ} 0 1 = cc in absurd (omega arith)
text-here minus z e = let x : ◌≡◌ {A = ℕ} 0 1 = cc in absurd (omega arith)
text-here (digits_of false d) z e = let q : pos d ≡ z = cc in rw (← q)
text-here (digits_of true zero) z e = let x : ◌≡◌ {A = ℕ} 0 1 = cc in absurd (omega arith)
text-here (digits_of true (suc d)) z e = let q : negsuc d ≡ z = cc in rw (← q)

-- a digit's byte
one_byte : (c : ℕ) → 48 ≤ c → c ≤ 57 → decimal (c - 48) ≡ c ∷ []
one_byte c low high = one_digit 9 (c - 48) (omega arith) ∙ ap (λ (b : ℕ). b ∷ []) (omega arith)

is_minus : (c : ℕ) → is_numeric c ≡ true → is_digit c ≡ false → c ≡ minus_sign
unfolding is_numeric
is_minus c numeric f = ⊎_elim (λ (t : eqb c minus_sign ≡ true). eqb-true c minus_sign t)
    (λ (g : eqb c minus_sign ≡ false). absurd (false≢true (rw (g, f) at numeric)))
    (decided (eqb c minus_sign))

text-first : (c : ℕ) (next : Typed) → is_numeric c ≡ true → pressed nothing c ≡ some next → typed_text next ≡ c ∷ []
unfolding typed_text pressed
text-first c next numeric e =
    ⊎_elim (λ (t : is_digit c ≡ true).
    let e2 : some (digits_of false (c - 48)) ≡ some next = rw t at e in
    let is : next ≡ digits_of false (c - 48) = cc in
    rw is (one_byte c (digit_low c t) (digit_high c t)))
    (λ (f : is_digit c ≡ false).
    let e2 : some minus ≡ some next = rw f at e in
    let is : next ≡ minus = cc in
    rw (is, is_minus c numeric f))
    (decided (is_digit c))

text_longer : (sign : Bool) (d c : ℕ) → 1 ≤ d → 48 ≤ c → c ≤ 57 → 10 * d + (c - 48) < 10 ^ 10
    → typed_text (digits_of sign (10 * d + (c - 48))) ≡ typed_text (digits_of sign d) ++ c ∷ []
unfolding typed_text
text_longer false d c l low high small =
    decimal_more d (c - 48) l (omega arith) small ∙ ap (λ (b : ℕ). decimal d ++ b ∷ []) (omega arith)
text_longer true d c l low high small =
    ap (λ (xs : List ℕ). minus_sign ∷ xs)
    (decimal_more d (c - 48) l (omega arith) small ∙ ap (λ (b : ℕ). decimal d ++ b ∷ []) (omega arith))

text_more : (t next : Typed) (c : ℕ) (z : ℤ) → TenDigits z → is_numeric c ≡ true → pressed t c ≡ some next → Comes next z
    → typed_text next ≡ typed_text t ++ c ∷ []
unfolding typed_text
text_more nothing next c z small numeric e h = text-first c next numeric e
text_more minus next c z small numeric e h =
    let (is, low, high) = press_minus c next e in
    rw is (ap (λ (xs : List ℕ). minus_sign ∷ xs) (one_byte c (omega arith) high))
text_more (digits_of sign d) next c z small numeric e h =
    let (is, low, high, some-digits) = press_digits sign d c next e in
    rw is (text_longer sign d c some-digits low high (small_enough sign (10 * d + (c - 48)) z small (rw is at h)))

completes_text : {t : Typed} {text : List ℕ} {z : ℤ} → TenDigits z → Completes t text z → typed_text t ++ text ≡ numeral z
completes_text small (here {t = t} {z = z} e) = append-nil (typed_text t) ∙ text-here t z e
completes_text small (more {t = t} {next = next} {c = c} {text = text} {z = z} numeric e rest) =
    sym (append_snoc (typed_text t) c text)
    ∙ ap (λ (xs : List ℕ). xs ++ text) (sym (text_more t next c z small numeric e (comes rest)))
    ∙ completes_text small rest

pub typed_numeral : {text : List ℕ} {z : ℤ} → TenDigits z → Completes nothing text z → text ≡ numeral z
unfolding typed_text
typed_numeral small h = completes_text small h
