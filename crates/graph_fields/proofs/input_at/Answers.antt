-- An input place stands in its two bytes of the record.
use mathlib.Core.Path.{◌≡◌, ◌∙◌, sym, ap}
use Prim.Native.Nat.{◌+◌}
use native.Mathlib.Omega.{arith}
use lib.ListN.{length, get_or}
use Rattle.definitions.specs.Fields.{byte_at}
use Rattle.definitions.specs.Graph.{unused_place, Slot, record_at, graph_of, inputs_of}
use Rattle.laws.proofs.Graph.{slot_of_lem, length-inputs, input_of}
use Rattle.graph_fields.proofs.input_at.Goals as goal

pub returns : goal.returns
returns c = let a = c.args in
    let block = a.graph.now in
    let slot = slot_of_lem block a.k c.requires.k_bound in
    let counted : length (inputs_of (graph_of block) a.k) ≡ byte_at block (record_at a.k + 2) =
    ap (λ (x : Slot). length x.inputs) slot ∙ length-inputs block (record_at a.k) in
    let word = ap (λ (x : Slot). get_or x.inputs a.i unused_place) slot
    ∙ input_of block (record_at a.k) a.i unused_place (omega (arith, counted, c.requires.i_in_bounds)) in
    ((rw c.record_at-at.ensures.0 at c.u16_at.ensures.0) ∙ sym word, c.u16_at.ensures.1)
