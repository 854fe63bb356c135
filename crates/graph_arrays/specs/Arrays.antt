-- What stands in the places of the record that starts at `at`, also in its unused ones.
-- Assumes nothing.
use Rattle.std.specs.Prelude.{List, ℕ, ◌+◌, ◌*◌}
use Rattle.definitions.specs.Lists.{tabulate}
use Rattle.definitions.specs.Fields.{u16_at, u32_at}
use Rattle.definitions.specs.Graph.{inputs_offset, attributes_offset, input_limit, attribute_limit}

unfoldable pub inputs_at : List ℕ → ℕ → List ℕ
inputs_at block at = tabulate input_limit (λ i. u16_at block (at + inputs_offset + 2 * i))

unfoldable pub attributes_at : List ℕ → ℕ → List ℕ
attributes_at block at = tabulate attribute_limit (λ i. u32_at block (at + attributes_offset + 4 * i))
