use Rattle.std.proofs.Common.{rules}
use borrow.Author.Tests.{tests}
use Prim.Native.Nat.{◌+◌, ◌*◌}
use Rattle.definitions.specs.Fields.{u32_at}
use Rattle.definitions.specs.Graph.{attributes_offset, attribute_limit}
use Rattle.laws.proofs.Tabulated.{table_of_calls}
use Rattle.graph_arrays.specs.Arrays.{attributes_at}
use Rattle.graph_arrays.proofs.read_attributes.Goals as goal

pub returns : goal.returns
unfolding attributes_at
returns c = table_of_calls (λ i. u32_at c.args.block.now (c.args.at + attributes_offset + 4 * i)) _ (λ x b q k. search (rules, tests)) _ attribute_limit c.from_fn.ensures.items
