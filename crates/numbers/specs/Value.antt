-- What an expression gives as the definitions say it, when a result is in range, and the operation of a node's form.
-- Assumes nothing.
use Rattle.std.specs.Prelude.{Bool, true, ℕ, ◌-◌, ℤ, get_or}
use Rattle.std.specs.declared.option.Option as language
use Rattle.std.specs.declared.option.Option.TheVariants.{None, Some}
use Rattle.std.proofs.Math.Option.{Option, none, some}
use Rattle.definitions.specs.Rule.{form_add, Operation, operations, remainder}
use Rattle.definitions.specs.Attributes.{in_range}

-- What an expression gives: a number, or nothing.
unfoldable pub value_of : language.Option ℤ → Option ℤ
value_of None = none
value_of (Some z) = some z

-- a result, if there is one, is in range
unfoldable pub bounded : Option ℤ → Bool
bounded none = true
bounded (some z) = in_range z

-- the operation of a node's form, 3 to 7
abbrev pub operation_of : ℕ → Operation
operation_of form = get_or operations (form - form_add) remainder
