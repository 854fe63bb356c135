-- What a division gives.
-- Assumes nothing.
use Rattle.std.specs.Prelude.{◌≡◌, true, false, ℤ, ◌-ℤ◌, ◌*ℤ◌}
use Rattle.std.specs.Option.{MatchOption}
use Rattle.std.specs.declared.option.Option.{Option}
use Rattle.definitions.specs.Attributes.{quotient, is_zero}
use Rattle.quotients.specs.declared.Division.{Division}

-- the quotient of x by y, rounded down, and what it leaves
pub record Divides (x y : ℤ) (given : Division) : Type 0 where
  pub nonzero : is_zero y ≡ false
  pub down : given.quotient ≡ quotient x y
  pub left : given.rest ≡ x -ℤ y *ℤ quotient x y

-- or nothing, where y is zero
abbrev pub DividesUnlessZero : ℤ → ℤ → Option Division → Type 0
DividesUnlessZero x y given = MatchOption given (is_zero y ≡ true) (Divides x y)
