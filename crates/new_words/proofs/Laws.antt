-- Laws about the words of results: the word as the code has it is the definition's.
-- Assumes nothing.
use mathlib.Core.Path.{◌≡◌, refl}
use mathlib.Core.Option.{Option, none, some}
use Prim.Native.Nat.{ℕ}
use lib.IntN.{ℤ}
use Rattle.definitions.specs.Fields.{word_of}
use Rattle.std.specs.declared.option.Option as language
use Rattle.std.specs.declared.option.Option.TheVariants.{None, Some}
use Rattle.numbers.specs.Value.{value_of}
use Rattle.new_words.specs.Words.{word_of_value}

-- the word of a result, and zero where there is none
abbrev pub word_in : Option ℤ → ℕ
word_in none = 0
word_in (some z) = word_of z

pub value-word : (v : language.Option ℤ) → word_of_value v ≡ word_in (value_of v)
unfolding word_of_value value_of
value-word None = refl
value-word (Some z) = refl
