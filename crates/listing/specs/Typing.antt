-- A number that is being read, byte by byte, and whether some number of a field can still come of it.
-- Assumes nothing.
use Rattle.std.specs.Prelude.{Bool, true, false, cond, ◌&&◌, ◌||◌, List, [], ◌∷◌, ℕ, zero, suc, ◌+◌, ◌-◌, ◌*◌, ◌/◌, ◌^◌, ◌<◌, ◌≤◌, eqb, ltb, ℤ, pos, negsuc}
use Rattle.std.proofs.Math.Option.{Option, none, some}
use Rattle.definitions.specs.Lists.{within}
use Rattle.definitions.specs.Numerals.{minus_sign, Field, in_field}

-- what has been read of it: nothing, a minus, or the digits of a number, behind a minus or not
pub data Typed : Type 0 where
  nothing : Typed
  minus : Typed
  digits_of : Bool → ℕ → Typed

-- the number with these digits
unfoldable pub valued : Bool → ℕ → ℤ
valued false n = pos n
valued true zero = pos zero
valued true (suc n) = negsuc n

unfoldable pub is_digit : ℕ → Bool
is_digit c = within 48 c 57

-- a byte that can stand in a number
unfoldable pub is_numeric : ℕ → Bool
is_numeric c = eqb c minus_sign || is_digit c

-- the next byte of a number, a digit or a minus; no digit follows a leading zero, and a minus stands only before a nonzero number
unfoldable pub pressed : Typed → ℕ → Option Typed
pressed nothing c = cond (is_digit c) (some (digits_of false (c - 48))) (some minus)
pressed minus c = cond (is_digit c && ltb 48 c) (some (digits_of true (c - 48))) none
pressed (digits_of sign d) c = cond (is_digit c && ltb 0 d) (some (digits_of sign (10 * d + (c - 48)))) none

-- the number, where it may end here
unfoldable pub whole : Typed → Option ℤ
whole nothing = none
whole minus = none
whole (digits_of false d) = some (pos d)
whole (digits_of true zero) = none
whole (digits_of true (suc d)) = some (negsuc d)

-- Can the digits of d go on to a number from low to high? They can where d lies within the bounds, or within the bounds without
-- their last digits.
unfoldable pub reaches : ℕ → ℕ → ℕ → ℕ → Bool
reaches zero d low high = false
reaches (suc places) d low high = within low d high || reaches places d (low / 10) (high / 10)

-- a zero can only end
unfoldable pub goes_on : ℕ → ℕ → ℕ → Bool
goes_on d low high = cond (ltb 0 d) (reaches 10 d low high) (eqb low 0)

-- the bounds of the digits, behind a minus or not
unfoldable pub low_of : Field → Bool → ℕ
low_of field sign = cond sign 1 field.low

unfoldable pub high_of : Field → Bool → ℕ
high_of field sign = cond sign field.below field.high

unfoldable pub can_go_on : Field → Typed → Bool
can_go_on field nothing = true
can_go_on field minus = ltb 0 field.below
can_go_on field (digits_of sign d) = goes_on d (low_of field sign) (high_of field sign)

-- a field has a number, and none of more than ten digits
pub record FieldFits (field : Field) : Type 0 where
  pub some_number : field.low ≤ field.high
  pub ten_digits : field.high < 10 ^ 10
  pub ten_below : field.below < 10 ^ 10

-- ---- reading a number from a text

-- what has been read with one byte more, where some number of the field can still come of it
unfoldable pub going_on : Field → Option Typed → Option Typed
going_on field none = none
going_on field (some t) = cond (can_go_on field t) (some t) none

unfoldable pub typed_with : Field → Typed → ℕ → Option Typed
typed_with field t c = going_on field (pressed t c)

-- what reading a part of a text gives: the place at which it cannot go on; or what the part says, and the place behind it
pub data Got (A : Type 0) : Type 0 where
  stopped : ℕ → Got A
  got : A → ℕ → Got A

-- the number ends before the byte at this place
unfoldable pub ended_at : Field → ℕ → Option ℤ → Got ℤ
ended_at field at none = stopped at
ended_at field at (some z) = cond (in_field field z) (got z at) (stopped at)

unfoldable pub number_from : Field → Typed → ℕ → List ℕ → Got ℤ
number_from field t at [] = stopped at
number_from field t at (c ∷ text) = elim (is_numeric c) [
  | true ↦ elim (typed_with field t c) [
    | none ↦ stopped at
    | some next ↦ number_from field next (suc at) text
  ]
  | false ↦ ended_at field at (whole t)
]
