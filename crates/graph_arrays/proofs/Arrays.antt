-- How long the arrays of a record are.
-- Assumes nothing.
use mathlib.Core.Path.{◌≡◌}
use mathlib.Core.List.{List}
use Prim.Native.Nat.{ℕ, ◌+◌, ◌*◌}
use lib.ListN.{length}
use Rattle.definitions.specs.Fields.{u16_at, u32_at}
use Rattle.definitions.specs.Graph.{inputs_offset, attributes_offset, input_limit, attribute_limit}
use Rattle.laws.proofs.Lists.{length-tabulate}
use Rattle.graph_arrays.specs.Arrays.{inputs_at, attributes_at}

module _ (block : List ℕ) (at : ℕ) where
  pub inputs-size : length (inputs_at block at) ≡ input_limit
  unfolding inputs_at
  inputs-size = length-tabulate input_limit (λ i. u16_at block (at + inputs_offset + 2 * i))

  pub attributes-size : length (attributes_at block at) ≡ attribute_limit
  unfolding attributes_at
  attributes-size = length-tabulate attribute_limit (λ i. u32_at block (at + attributes_offset + 4 * i))
