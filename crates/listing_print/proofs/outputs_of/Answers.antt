-- The outputs stand in the places of the header.
use native.Mathlib.Omega.{arith}
use Rattle.listing_print.proofs.Rows.{outputs-row}
use Rattle.listing_print.proofs.outputs_of.Goals as goal

pub returns : goal.returns
returns c = record {
  inside = omega (arith, c.requires.readable_graph.whole.size, c.requires.readable_graph.whole.outputs);
  same = outputs-row c.args.graph.now c.output_count.result c.output_count.ensures.0;
}
