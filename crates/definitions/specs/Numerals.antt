-- Request 7/13: "numbers are decimal without leading zeros, a minus only before a nonzero number". A text is its list of bytes.
-- Assumes nothing.
use Rattle.std.specs.Prelude.{Bool, cond, List, [], ◌∷◌, ◌++◌, ℕ, zero, suc, ◌+◌, ◌/◌, ◌%◌, ltb, ℤ, pos, negsuc}
use Rattle.definitions.specs.Lists.{within}

-- `-`
abbrev pub minus_sign : ℕ
minus_sign = 45

-- the byte of a digit: `0` for 0
abbrev pub digit : ℕ → ℕ
digit d = 48 + d

-- n in decimal, where n has at most `places` digits
unfoldable pub digits : ℕ → ℕ → List ℕ
digits zero n = []
digits (suc places) n =
    let more = digits places (n / 10) ++ digit (n % 10) ∷ [] in
    cond (ltb n 10) (digit n ∷ []) more

-- no number of a listing has more than ten digits
abbrev pub decimal : ℕ → List ℕ
decimal n = digits 10 n

unfoldable pub numeral : ℤ → List ℕ
numeral (pos n) = decimal n
numeral (negsuc n) = minus_sign ∷ decimal (suc n)

-- the numbers that a field takes: low to high, and -below to -1
pub record Field : Type 0 where
  pub low : ℕ
  pub high : ℕ
  pub below : ℕ

unfoldable pub in_field : Field → ℤ → Bool
in_field field (pos n) = within field.low n field.high
in_field field (negsuc n) = ltb n field.below
