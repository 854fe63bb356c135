-- Reading the parts of a listing from a place on, as code does it: lists of numbers, and any part.
-- Assumes nothing.
use Rattle.std.specs.Prelude.{◌≡◌, Bool, true, false, cond, List, [], ◌∷◌, ℕ, zero, suc, ◌-◌, eqb, ltb, ℤ, length, get_or, drop}
use Rattle.definitions.specs.Numerals.{Field}
use Rattle.definitions.specs.Sheet.{Sheet}
use Rattle.listing.specs.Typing.{nothing, Got, stopped, got, number_from}
use Rattle.listing.specs.Forms.{Form, answer_from, go_on}

-- ---- lists of numbers

unfoldable pub with_first : ℤ → Got (List ℤ) → Got (List ℤ)
with_first z (stopped at) = stopped at
with_first z (got zs at) = got (z ∷ zs) at

-- what follows a number
unfoldable pub behind_number : (ℕ → Got (List ℤ)) → Got ℤ → Got (List ℤ)
behind_number next (stopped at) = stopped at
behind_number next (got z at) = with_first z (next at)

-- by the byte at this place, where there is one
unfoldable pub at_place : List ℕ → ℕ → (ℕ → Got (List ℤ)) → Got (List ℤ)
at_place whole at f = cond (ltb at (length whole)) (f (get_or whole at 0)) (stopped at)

unfoldable pub spaced_from : ℕ → ℕ → Field → ℕ → List ℕ → ℕ → Got (List ℤ)
spaced_from least zero field stop whole at =
    at_place whole at (λ c. cond (eqb c stop) (got [] (suc at)) (stopped at))
spaced_from zero (suc most) field stop whole at =
    at_place whole at (λ c. cond (eqb c stop) (got [] (suc at))
    (cond (eqb c 32) (behind_number (spaced_from zero most field stop whole) (number_from field nothing (suc at) (drop (suc at) whole)))
    (stopped at)))
spaced_from (suc least) (suc most) field stop whole at =
    at_place whole at (λ c.
    cond (eqb c 32) (behind_number (spaced_from least most field stop whole) (number_from field nothing (suc at) (drop (suc at) whole)))
    (stopped at))

unfoldable pub joined_from : ℕ → ℕ → Field → ℕ → List ℕ → ℕ → Got (List ℤ)
joined_from least zero field stop whole at = spaced_from least zero field stop whole at
joined_from least (suc most) field stop whole at =
    behind_number (spaced_from (least - 1) most field stop whole) (number_from field nothing at (drop at whole))

-- ---- any part

-- A part of a listing is read from a place on: whatever follows it, the answer stops where the part does, or goes on behind it.
abbrev pub PartRead : {A : Type 0} → ((A → Form Sheet) → Form Sheet) → List ℕ → ℕ → Got A → Type 0
PartRead {A} part whole at g = (f : A → Form Sheet) → answer_from (part f) at (drop at whole) ≡ go_on f whole g

-- what the code says of a part: it has stopped there, or this is what it says
unfoldable pub got_if : {A : Type 0} → Bool → A → ℕ → Got A
got_if true a at = stopped at
got_if false a at = got a at
