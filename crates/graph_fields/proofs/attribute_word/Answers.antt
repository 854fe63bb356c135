-- An attribute place stands in its four bytes of the record.
use mathlib.Core.Path.{◌≡◌, ◌∙◌, sym, ap}
use Prim.Native.Nat.{◌+◌}
use native.Mathlib.Omega.{arith}
use lib.ListN.{length, get_or}
use Rattle.definitions.specs.Fields.{byte_at}
use Rattle.definitions.specs.Graph.{Slot, record_at, graph_of, slot_of}
use Rattle.laws.proofs.Graph.{slot_of_lem, length-attributes, attribute_of_lem}
use Rattle.graph_fields.proofs.attribute_word.Goals as goal

pub returns : goal.returns
returns c = let a = c.args in
    let block = a.graph.now in
    let slot = slot_of_lem block a.k c.requires.k_bound in
    let counted : length (slot_of (graph_of block) a.k).attributes ≡ byte_at block (record_at a.k + 3) =
    ap (λ (x : Slot). length x.attributes) slot ∙ length-attributes block (record_at a.k) in
    let word = ap (λ (x : Slot). get_or x.attributes a.i 0) slot
    ∙ attribute_of_lem block (record_at a.k) a.i 0 (omega (arith, counted, c.requires.i_in_bounds)) in
    ((rw c.record_at-at.ensures.0 at c.u32_at.ensures.0) ∙ sym word, c.u32_at.ensures.1)
