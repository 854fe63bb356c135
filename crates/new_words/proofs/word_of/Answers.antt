-- The arms are the definition's.
use native.Mathlib.Omega.{arith}
use Rattle.std.proofs.lemmas.Int.{ints, to_z-of_z}
use Rattle.definitions.specs.Fields.{word_of}
use Rattle.new_words.specs.Words.{word_of_value}
use Rattle.new_words.proofs.word_of.Goals as goal

pub returns-in-None : goal.returns-in-None
unfolding word_of_value
returns-in-None c = rw c.in-None.is

pub returns-in-Some : goal.returns-in-Some
unfolding word_of_value word_of
returns-in-Some c = grind (arith, ints, to_z-of_z)
