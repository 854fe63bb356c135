-- An output place stands in its two bytes of the header.
use mathlib.Core.Path.{◌∙◌, sym}
use native.Mathlib.Omega.{arith}
use Rattle.definitions.specs.Graph.{unused_place}
use Rattle.laws.proofs.Graph.{output_of}
use Rattle.graph_fields.proofs.output_at.Goals as goal

pub returns : goal.returns
returns c = let a = c.args in
    (c.u16_at.ensures.0 ∙ sym (output_of a.graph.now a.i unused_place c.requires.i_bound), omega arith)
