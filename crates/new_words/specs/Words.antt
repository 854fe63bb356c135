-- The word of a result, and the results that fit a vertex.
-- Assumes nothing.
use Rattle.std.specs.Prelude.{Bool, false, not, ◌||◌, ℕ, eqb, ℤ}
use Rattle.std.proofs.Math.Option.{Option, none, some}
use Rattle.definitions.specs.Fields.{word_of}
use Rattle.definitions.specs.Operators.{kind_proj}
use Rattle.definitions.specs.Graph.{at_least_one}
use Rattle.std.specs.declared.option.Option as language
use Rattle.std.specs.declared.option.Option.TheVariants.{None, Some}

-- the word of a result, and zero where there is none
unfoldable pub word_of_value : language.Option ℤ → ℕ
word_of_value None = 0
word_of_value (Some z) = word_of z

-- there is a result, and for a Proj it is at least 1
unfoldable pub index_like : ℕ → Option ℤ → Bool
index_like kind none = false
index_like kind (some z) = not (eqb kind kind_proj) || at_least_one z
