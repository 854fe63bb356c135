-- The attributes stand in the places of their record.
use native.Mathlib.Omega.{arith}
use Rattle.listing_print.proofs.Rows.{attributes-row}
use Rattle.listing_print.proofs.attributes_of.Goals as goal

pub returns : goal.returns
returns c = record {
  inside = omega (arith, c.requires.readable_graph.whole.size);
  same = attributes-row c.args.graph.now c.args.k c.attribute_count.result c.requires.k_bound c.attribute_count.ensures.0;
}
