-- What a source vertex reaches, vertex by vertex from the lowest up: names for the test that the definition writes out.
-- Assumes nothing.
use Rattle.std.specs.Prelude.{Bool, false, ◌||◌, List, ℕ, eqb, get_or}
use Rattle.definitions.specs.Lists.{any}
use Rattle.definitions.specs.Rule.{Rule, source_inputs}

-- some input of source vertex w is marked in `found`
abbrev pub input_marked : Rule → List Bool → ℕ → Bool
input_marked r found w = any (λ u. get_or found u false) (source_inputs r w)

-- whether v reaches w, where `found` says it of the vertices below w
abbrev pub reached_next : Rule → ℕ → List Bool → ℕ → Bool
reached_next r v found w = eqb v w || input_marked r found w
