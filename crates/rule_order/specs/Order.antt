-- What a visit of a source vertex, or of its inputs, asks and gives where the first `next` vertices are visited already.
-- Assumes nothing.
use Rattle.std.specs.Prelude.{◌≡◌, Result, List, ◌∷◌, ◌++◌, ℕ, ◌<◌, ◌≤◌, drop}
use Rattle.std.specs.Result.{MatchResult}
use Rattle.definitions.specs.Lists.{foldl, range}
use Rattle.definitions.specs.Paths.{visit}
use Rattle.definitions.specs.Rule.{source_count, source_inputs}
use Rattle.rule_fields.specs.Fixed.{fixed_of}
use Rattle.rule_fields.specs.Layout.{LayeredRule}

-- v is a source vertex, its inputs and theirs are lower, and no more vertices are visited than there are.
pub record MayVisit (block : List ℕ) (v next : ℕ) : Type 0 where
  pub layout : LayeredRule block
  pub vertex : v < source_count block
  pub count : next ≤ source_count block

-- The first vertices visited are 0, 1, .. j - 1, and the next one is not j. This stays so whatever is visited later.
pub record DiffersAt (done : List ℕ) (j : ℕ) : Type 0 where
  pub other : ℕ
  pub later : List ℕ
  pub apart : other ≡ j → ⊥
  pub visited : done ≡ range 0 j ++ other ∷ later

-- The vertices visited so far are 0, 1, .. next - 1, or they are out of order for good, from a place on.
abbrev pub Counts : List ℕ → Result ℕ ℕ → Type 0
Counts done given = MatchResult given (λ next. done ≡ range 0 next) (λ j. DiffersAt done j)

-- neither is more than there are vertices
abbrev pub AtMost : ℕ → Result ℕ ℕ → Type 0
AtMost count given = MatchResult given (λ next. next ≤ count) (λ j. j ≤ count)

-- The depth d is the definition's; above v, it is enough, whatever it is.
pub record Visits (block : List ℕ) (v next : ℕ) (given : Result ℕ ℕ) : Type 0 where
  pub counts : (d : ℕ) → v < d → Counts (visit (source_inputs (fixed_of block)) d (range 0 next) v) given
  pub small : AtMost (source_count block) given

-- the same of the inputs of v from place i on
pub record VisitsInputs (block : List ℕ) (v i next : ℕ) (given : Result ℕ ℕ) : Type 0 where
  pub counts : (d : ℕ) → v ≤ d → Counts (foldl (visit (source_inputs (fixed_of block)) d) (range 0 next) (drop i (source_inputs (fixed_of block) v))) given
  pub small : AtMost (source_count block) given
