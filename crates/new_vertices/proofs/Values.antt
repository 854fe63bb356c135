-- Results that are known are there.
-- Assumes nothing.
use mathlib.Core.Path.{◌≡◌, refl}
use mathlib.Core.Bool.{true, false≢true}
use mathlib.Core.List.{List}
use mathlib.Core.Option.{Option, none, some}
use Rattle.target_attributes.specs.Words.{is_given}
use Rattle.new_vertices.specs.Slots.{values_of}

pub known_values : {A : Type 0} (best : Option (List A)) → is_given best ≡ true → best ≡ some (values_of best)
unfolding is_given values_of
known_values none h = absurd (false≢true h)
known_values (some values) h = refl
