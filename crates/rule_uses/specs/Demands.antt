-- What a rule demands of the uses of its images.
-- Assumes nothing.
use Rattle.std.specs.Prelude.{cond, ℕ, suc}
use Rattle.definitions.specs.Rule.{Rule}
use Rattle.definitions.specs.Match.{must_be_private, places_of}

-- What a source vertex demands of its image's uses: 0 for none, and one more than their number for a vertex whose image must be
-- private.
unfoldable pub demand_of : Rule → ℕ → ℕ
demand_of r j = cond (must_be_private r j) (suc (places_of r j)) 0
