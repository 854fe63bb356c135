use mathlib.Core.Path.{◌≡◌, refl, sym, ap, ◌∙◌}
use mathlib.Core.Bool.{Bool, true, false, cond, not}
use mir.Val.{bool_byte}
use mathlib.Core.List.{◌++◌, append-nil, append_assoc}
use Prim.Native.Nat.{◌+◌, ◌*◌}
use native.Mathlib.Numerals.{add-one}
use native.Mathlib.Omega.{arith}
use lib.ListN.{length, get_or, take}
use lib.Seq.{take_all}
use Rattle.definitions.specs.Lists.{filter, range, tabulate, concat_map}
use Rattle.definitions.specs.Graph.{header_bytes, slot_bytes, graph_of, record_block}
use Rattle.definitions.specs.Rewriting.{stays}
use Rattle.rule_fields.specs.Fixed.{fixed_of}
use Rattle.laws.proofs.Lists.{bit}
use Rattle.laws.proofs.Filtered.{filtered_count}
use Rattle.laws.proofs.Pieces.{pieces_more}
use Rattle.laws.proofs.Graph.{length-slots}
use Rattle.new_vertices.specs.Slots.{values_of, fit_results}
use Rattle.new_table.specs.Table.{new_table}
use Rattle.laws.proofs.Rewriting.{new-length}
use Rattle.new_table.proofs.write_slots.Invariants.{free_below, slots_below}
use Rattle.new_table.proofs.write_slots.Goals as goal

byte_bit : (b : Bool) → bool_byte b ≡ cond b 1 0
byte_bit true = refl
byte_bit false = refl

pub loop-k-init : goal.loop-k-init
unfolding concat_map tabulate filter range
loop-k-init c = record { counted = refl; bounded = omega arith; written = sym (append-nil (take header_bytes c.args.table.now)) }

pub loop-k-preserved : goal.loop-k-preserved
loop-k-preserved c =
    let graph = c.args.graph.now in
    let rule = c.args.rule.now in
    let images = c.args.images.now in
    let k = c.loop-k.k in
    let front = take header_bytes c.args.table.now in
    let is_free = get_or c.args.free.now k false in
    let more : free_below graph rule images (k + 1) ≡ free_below graph rule images k + cond is_free 1 0 =
    rw (c.requires.marked.each k (omega (arith, c.slot_count-slots.ensures.0)), add-one) (filtered_count (λ i. not (stays (graph_of graph) (fixed_of rule) images i)) k) in
    let made = record_block (λ i. 0) (new_table graph rule images) in record {
      counted = omega (arith, c.from-next.ensures, byte_bit is_free, c.loop-k.invariant.counted, more);
      bounded = omega (arith, c.from-next.ensures, byte_bit is_free, bit is_free, c.loop-k.invariant.bounded);
      written = c.write_slot.ensures
          ∙ ap (λ bytes. bytes ++ made k) c.loop-k.invariant.written
          ∙ append_assoc front (slots_below graph rule images k) (made k)
          ∙ ap (λ bytes. front ++ bytes) (sym (pieces_more made k (λ i. i)));
    }

pub returns : goal.returns
unfolding new_table
returns c =
    let graph = c.args.graph.now in
    let rule = c.args.rule.now in
    let images = c.args.images.now in
    let all : c.loop-k.k ≡ length (new_table graph rule images).slots = omega (
      arith,
      c.slot_count-slots.ensures.0,
      length-slots graph,
      new-length (graph_of graph) (fixed_of rule) images (values_of (fit_results graph rule images)),
    ) in
    sym (take_all (header_bytes + slot_bytes * c.loop-k.k) c.loop-k.table (omega (arith, c.slot_count-slots.ensures.0, c.requires.prepared.old_table.whole.size)))
    ∙ c.loop-k.invariant.written
    ∙ ap (λ n. take header_bytes c.args.table.now ++ slots_below graph rule images n) all
