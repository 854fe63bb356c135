-- The kind of a slot is the first byte of its record.
use mathlib.Core.Path.{◌∙◌, sym, ap}
use Rattle.definitions.specs.Graph.{Slot, slot_from}
use Rattle.laws.proofs.Graph.{slot_of_lem}
use Rattle.graph_fields.proofs.kind_of.Goals as goal

pub returns : goal.returns
unfolding slot_from
returns c = let a = c.args in
    let byte = rw c.record_at-at.ensures.0 at c.byte_at.ensures.0 in
    (byte ∙ sym (ap (λ (slot : Slot). slot.kind) (slot_of_lem a.graph.now a.k c.requires.k_bound)), c.byte_at.ensures.1)
