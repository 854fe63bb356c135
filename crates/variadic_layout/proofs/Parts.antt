-- The sides of the layout, field by field.
-- Assumes nothing.
use mathlib.Core.Path.{◌≡◌, refl}
use mathlib.Core.List.{List}
use Prim.Native.Nat.{ℕ}
use Rattle.variadic_layout.specs.Parts.{source_part, target_part}

pub source-count : (block : List ℕ) (sources : ℕ) → (source_part block sources).count ≡ sources
unfolding source_part
source-count block sources = refl

pub target-count : (block : List ℕ) (sources targets : ℕ) → (target_part block sources targets).count ≡ targets
unfolding target_part
target-count block sources targets = refl
