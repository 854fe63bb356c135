-- A table in which every slot reads lower slots only.
-- Assumes nothing.
use Rattle.std.specs.Prelude.{Bool, List, ℕ, ltb}
use Rattle.definitions.specs.Lists.{all_below, all}

-- every input of slot k names a lower slot
unfoldable pub reads_lower : (ℕ → List ℕ) → ℕ → Bool
reads_lower inputs k = all (λ u. ltb u k) (inputs k)

-- and so do the inputs of the first n slots
unfoldable pub sorted : (ℕ → List ℕ) → ℕ → Bool
sorted inputs n = all_below (reads_lower inputs) n
