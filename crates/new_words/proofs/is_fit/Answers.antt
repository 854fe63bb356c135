-- The arms are the definition's, and so are the tests.
use native.Mathlib.Omega.{arith}
use Rattle.std.proofs.lemmas.Int.{ints}
use Rattle.definitions.specs.Graph.{at_least_one}
use Rattle.numbers.specs.Value.{value_of}
use Rattle.new_words.specs.Words.{index_like}
use Rattle.new_words.proofs.is_fit.Goals as goal

pub returns-in-None : goal.returns-in-None
unfolding index_like value_of
returns-in-None c = rw c.in-None.is

pub returns-then-kind-ne-KIND_PROJ : goal.returns-then-kind-ne-KIND_PROJ
unfolding index_like value_of
returns-then-kind-ne-KIND_PROJ c = grind (arith, ints)

pub returns-else-kind-ne-KIND_PROJ : goal.returns-else-kind-ne-KIND_PROJ
unfolding index_like value_of at_least_one
returns-else-kind-ne-KIND_PROJ c = grind (arith, ints)
