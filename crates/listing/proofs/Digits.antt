-- Numbers in decimal: one more digit at the end, whatever the count of places.
-- Assumes nothing.
use mathlib.Core.Path.{◌≡◌, sym, ap, ◌∙◌}
use mathlib.Core.Bool.{true, false}
use mathlib.Core.List.{List, [], ◌∷◌, ◌++◌}
use mathlib.Core.Logic.{◌⊎◌, ⊎_elim}
use Prim.Native.Nat.{ℕ, zero, suc, ◌+◌, ◌*◌, ◌/◌, ◌%◌, ◌^◌, ◌<◌, ◌≤◌}
use native.Mathlib.Nat.{pow-suc}
use native.Mathlib.Omega.{arith}
use borrow.Author.Tests.{lt-ltb, le-ltb, ltb-true, ltb-false}
use lib.Dec.{ltb}
use Rattle.definitions.specs.Numerals.{digit, digits, decimal}
use Rattle.laws.proofs.Lists.{decided}

-- a digit alone
pub one_digit : (places n : ℕ) → n < 10 → digits (suc places) n ≡ digit n ∷ []
unfolding digits
one_digit places n small = simp (lt-ltb n 10 small)

-- the last digit of a longer number
pub last_digit : (places n : ℕ) → 10 ≤ n → digits (suc places) n ≡ digits places (n / 10) ++ digit (n % 10) ∷ []
unfolding digits
last_digit places n large = simp (le-ltb n 10 large)

-- more places than are needed change nothing
pub enough : (places n : ℕ) → n < 10 ^ suc places → digits (suc places) n ≡ digits (suc (suc places)) n
enough zero n small =
    one_digit 0 n (omega arith) ∙ sym (one_digit 1 n (omega arith))
enough (suc places) n small =
    ⊎_elim (λ (t : ltb n 10 ≡ true).
    one_digit (suc places) n (ltb-true n 10 t) ∙ sym (one_digit (suc (suc places)) n (ltb-true n 10 t)))
    (λ (f : ltb n 10 ≡ false).
    let large : 10 ≤ n = ltb-false n 10 f in
    let shorter : n / 10 < 10 ^ suc places = omega (arith, rw (pow-suc 10 (suc places)) at small) in
    last_digit (suc places) n large
    ∙ ap (λ (xs : List ℕ). xs ++ digit (n % 10) ∷ []) (enough places (n / 10) shorter)
    ∙ sym (last_digit (suc (suc places)) n large))
    (decided (ltb n 10))

-- a number of two or more digits
pub decimal_last : (n : ℕ) → 10 ≤ n → n < 10 ^ 10 → decimal n ≡ decimal (n / 10) ++ digit (n % 10) ∷ []
decimal_last n large small =
    last_digit 9 n large ∙ ap (λ (xs : List ℕ). xs ++ digit (n % 10) ∷ []) (enough 8 (n / 10) (omega arith))

-- one more digit
pub decimal_more : (d c : ℕ) → 1 ≤ d → c < 10 → 10 * d + c < 10 ^ 10 → decimal (10 * d + c) ≡ decimal d ++ digit c ∷ []
decimal_more d c some few small =
    let front : (10 * d + c) / 10 ≡ d = omega arith in
    let back : (10 * d + c) % 10 ≡ c = omega arith in
    decimal_last (10 * d + c) (omega arith) small ∙ rw (front, back)
