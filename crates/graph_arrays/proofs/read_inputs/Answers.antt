use Rattle.std.proofs.Common.{rules}
use borrow.Author.Tests.{tests}
use Prim.Native.Nat.{◌+◌, ◌*◌}
use Rattle.definitions.specs.Fields.{u16_at}
use Rattle.definitions.specs.Graph.{inputs_offset, input_limit}
use Rattle.laws.proofs.Tabulated.{table_of_calls}
use Rattle.graph_arrays.specs.Arrays.{inputs_at}
use Rattle.graph_arrays.proofs.read_inputs.Goals as goal

pub returns : goal.returns
unfolding inputs_at
returns c = table_of_calls (λ i. u16_at c.args.block.now (c.args.at + inputs_offset + 2 * i)) _ (λ x b q k. search (rules, tests)) _ input_limit c.from_fn.ensures.items
