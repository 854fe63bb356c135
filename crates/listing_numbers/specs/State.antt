-- What the code's numbers stand for while a number is read.
-- Assumes nothing.
use Rattle.std.specs.Prelude.{Bool, ℕ, ℤ}
use Rattle.std.specs.declared.option.Option as std
use Rattle.std.specs.declared.option.Option.TheVariants.{None, Some}
use Rattle.std.specs.declared.result.Result.{Result}
use Rattle.std.specs.declared.result.Result.TheVariants.{Ok, Err}
use Rattle.std.proofs.Math.Option.{Option, none, some}
use Rattle.definitions.specs.Numerals as numerals
use Rattle.listing.specs.Typing.{Typed, nothing, minus, digits_of, valued, typed_with, Got, stopped, got}
use Rattle.listing_numbers.specs.declared.Field.{Field}
use Rattle.listing_numbers.specs.declared.Typing.{Typing}
use Rattle.listing_numbers.specs.declared.Typing.TheVariants.{Nothing, Minus, Digits, NegativeDigits}
use Rattle.listing_numbers.specs.declared.Number.{Number}
use Rattle.listing_numbers.specs.declared.Stopped.{Stopped}

abbrev pub field_of : Field → numerals.Field
field_of field = record { low = field.low; high = field.high; below = field.below }

-- what has been read
abbrev pub typed_of : Typing → Typed
typed_of Nothing = nothing
typed_of Minus = minus
typed_of (Digits n) = digits_of Bool.false n
typed_of (NegativeDigits n) = digits_of Bool.true n

-- its digits, as a number
abbrev pub digits_in : Typing → ℕ
digits_in Nothing = 0
digits_in Minus = 0
digits_in (Digits n) = n
digits_in (NegativeDigits n) = n

-- what one byte more leaves, where some number of the field goes on with it
abbrev pub next_of : std.Option Typing → Option Typed
next_of None = none
next_of (Some t) = some (typed_of t)

-- the same of what may be a number no more: nothing comes of it then
unfoldable pub after_byte : numerals.Field → Option Typed → ℕ → Option Typed
after_byte field none c = none
after_byte field (some t) c = typed_with field t c

-- what the code returns for a number
abbrev pub got_of : Result Number Stopped → Got ℤ
got_of (Ok n) = got (valued n.negative n.value) n.next
got_of (Err e) = stopped e.at
