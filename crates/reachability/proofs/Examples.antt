-- A table with a cycle: slots 0 and 1 read each other, slot 2 reads slot 1, and slot 3 reads nothing and is read by nothing.
-- Assumes nothing.
use mathlib.Core.Path.{◌≡◌, refl}
use mathlib.Core.Bool.{true, false}
use mathlib.Core.List.{List, [], ◌∷◌}
use Prim.Native.Nat.{ℕ}
use lib.ListN.{get_or}
use Rattle.definitions.specs.Lists.{any_below, lowest, tabulate, member}
use Rattle.definitions.specs.Paths.{grown, grown_by, reaching, on_cycle}

abbrev inputs : ℕ → List ℕ
inputs v = get_or ((1 ∷ []) ∷ (0 ∷ []) ∷ (1 ∷ []) ∷ [] ∷ []) v []

-- what reaches slot 2
reaching_two : reaching inputs 4 (2 ∷ []) ≡ true ∷ true ∷ true ∷ false ∷ []
unfolding reaching grown_by grown tabulate any_below member
reaching_two = refl

-- the lowest slot on a cycle, and one that only a cycle leads to
on_cycle_lem : lowest (on_cycle inputs 4) 4 ≡ 0
unfolding on_cycle reaching grown_by grown tabulate any_below member lowest
on_cycle_lem = refl

not_on_cycle : on_cycle inputs 4 2 ≡ false
unfolding on_cycle reaching grown_by grown tabulate any_below member
not_on_cycle = refl
