-- The input count stands in its byte of the record.
use mathlib.Core.Path.{◌∙◌, sym, ap}
use native.Mathlib.Omega.{arith}
use lib.ListN.{length}
use Rattle.definitions.specs.Graph.{Slot, record_at}
use Rattle.laws.proofs.Graph.{slot_of_lem, length-inputs}
use Rattle.graph_fields.proofs.input_count.Goals as goal

pub returns : goal.returns
returns c = let a = c.args in
    let byte = rw c.record_at-at.ensures.0 at c.byte_at.ensures.0 in
    let count = byte
    ∙ sym (ap (λ (slot : Slot). length slot.inputs) (slot_of_lem a.graph.now a.k c.requires.k_bound) ∙ length-inputs a.graph.now (record_at a.k)) in
    (count, omega (arith, count, c.requires.readable_graph.inputs a.k c.requires.k_bound))
