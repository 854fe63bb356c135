-- How the number for which a word stands is printed.
-- Assumes nothing.
use mathlib.Core.Path.{◌≡◌, ap}
use mathlib.Core.List.{[], ◌∷◌, ◌++◌}
use Prim.Native.Nat.{ℕ, suc, ◌-◌, ◌^◌, ◌≤◌, ◌<◌}
use native.Mathlib.Omega.{arith}
use borrow.Author.Tests.{lt-ltb, le-ltb}
use lib.IntN.{pos}
use Rattle.definitions.specs.Fields.{signed}
use Rattle.definitions.specs.Numerals.{minus_sign, decimal, numeral}

pub signed_plus : (word : ℕ) → word < 2 ^ 31 → signed word ≡ pos word
unfolding signed
signed_plus word small = simp (lt-ltb word (2 ^ 31) small)

pub numeral_plus : (word : ℕ) → word < 2 ^ 31 → numeral (signed word) ≡ decimal word
unfolding numeral
numeral_plus word small = ap numeral (signed_plus word small)

pub numeral_minus : (word : ℕ) → 2 ^ 31 ≤ word → word < 2 ^ 32 → numeral (signed word) ≡ (minus_sign ∷ []) ++ decimal (2 ^ 32 - word)
unfolding numeral signed
numeral_minus word large small =
    let n : suc (2 ^ 32 - 1 - word) ≡ 2 ^ 32 - word = omega arith in
    rw (le-ltb word (2 ^ 31) large) (ap (λ (m : ℕ). minus_sign ∷ decimal m) n)
