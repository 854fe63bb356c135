-- What an array of counts holds.
-- Assumes nothing.
use Rattle.std.specs.Prelude.{◌≡◌, List, ℕ, length, get_or}

-- an array of so many places, in which place v holds f v; past its places f is 0
pub record Counted (size : ℕ) (f : ℕ → ℕ) (counts : List ℕ) : Type 0 where
  pub places : length counts ≡ size
  pub at : (v : ℕ) → get_or counts v 0 ≡ f v
