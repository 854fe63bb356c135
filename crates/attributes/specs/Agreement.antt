-- When expressions agree with the words of attributes.
-- Assumes nothing.
use Rattle.std.specs.Prelude.{Bool, List, ℕ, ℤ, length, get_or}
use Rattle.std.proofs.Math.Option.{Option}
use Rattle.definitions.specs.Lists.{all_below}
use Rattle.definitions.specs.Fields.{signed}
use Rattle.definitions.specs.Rule.{Expression, anything}
use Rattle.definitions.specs.Attributes.{agrees}

-- the expressions agree with the first of the words, one by one
unfoldable pub agree_first : (ℕ → ℕ → Option ℤ) → List Expression → List ℕ → Bool
agree_first read expressions words =
    all_below (λ i. agrees read (get_or expressions i anything) (signed (get_or words i 0))) (length expressions)
