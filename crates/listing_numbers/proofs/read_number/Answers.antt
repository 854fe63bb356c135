-- A number that begins with a digit, or with another byte: both are read as the contract says.
use mathlib.Core.Path.{sym, ◌∙◌}
use Rattle.listing_numbers.proofs.Stages.{digit_low}
use Rattle.listing_numbers.proofs.read_number.Goals as goal

pub overflow_sub-c : goal.overflow_sub-c
overflow_sub-c c = digit_low _ (sym c.is_digit.ensures ∙ c.if-is_digit.true)
