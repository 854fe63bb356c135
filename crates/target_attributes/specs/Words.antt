-- The words of attributes that have fit results.
-- Assumes nothing.
use Rattle.std.specs.Prelude.{◌≡◌, Bool, true, false, List, map, ℕ, ℤ}
use Rattle.std.proofs.Math.Option.{Option, none, some}
use Rattle.definitions.specs.Lists.{padded}
use Rattle.definitions.specs.Fields.{word_of}
use Rattle.definitions.specs.Graph.{attribute_limit}

unfoldable pub is_given {ℓ} : {A : Type ℓ} → Option A → Bool
is_given none = false
is_given (some x) = true

-- `best` are the results, where there are such; then these are their words, and zero stands in the unused places
pub record Given (best : Option (List ℤ)) (ok : Bool) (words : List ℕ) : Type 0 where
  pub found : ok ≡ true → (zs : List ℤ) × (best ≡ some zs) × (words ≡ padded attribute_limit 0 (map word_of zs))
  pub lacking : ok ≡ false → best ≡ none
