-- The attribute count stands in its byte of the record.
use mathlib.Core.Path.{◌∙◌, sym, ap}
use native.Mathlib.Omega.{arith}
use lib.ListN.{length}
use Rattle.definitions.specs.Graph.{Slot, record_at}
use Rattle.laws.proofs.Graph.{slot_of_lem, length-attributes}
use Rattle.graph_fields.proofs.attribute_count.Goals as goal

pub returns : goal.returns
returns c = let a = c.args in
    let byte = rw c.record_at-at.ensures.0 at c.byte_at.ensures.0 in
    let count = byte
    ∙ sym (ap (λ (slot : Slot). length slot.attributes) (slot_of_lem a.graph.now a.k c.requires.k_bound) ∙ length-attributes a.graph.now (record_at a.k)) in
    (count, omega (arith, count, c.requires.readable_graph.attributes a.k c.requires.k_bound))
