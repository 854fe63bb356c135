-- The inputs stand in the places of their record.
use native.Mathlib.Omega.{arith}
use Rattle.listing_print.proofs.Rows.{inputs-row}
use Rattle.listing_print.proofs.inputs_of.Goals as goal

pub returns : goal.returns
returns c = record {
  inside = omega (arith, c.requires.readable_graph.whole.size);
  same = inputs-row c.args.graph.now c.args.k c.input_count.result c.requires.k_bound c.input_count.ensures.0;
}
