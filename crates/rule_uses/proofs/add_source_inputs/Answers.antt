use mathlib.Core.Path.{sym}
use Prim.Native.Nat.{◌+◌, ◌<◌}
use native.Mathlib.Omega.{arith}
use lib.ListN.{length}
use Rattle.definitions.specs.Lists.{count}
use Rattle.definitions.specs.Rule.{side_capacity, source_inputs}
use Rattle.rule_fields.specs.Fixed.{fixed_of}
use Rattle.laws.proofs.Sums.{total_more}
use Rattle.laws.proofs.Counts.{counting_starts, counting_turn, counting_room, counting_ends}
use Rattle.rule_uses.proofs.Laws.{places_below_most}
use Rattle.rule_uses.proofs.add_source_inputs.Goals as goal

pub loop-i-init : goal.loop-i-init
loop-i-init c = counting_starts (source_inputs (fixed_of c.args.rule.now) c.args.w) (λ j. sym (total_more (λ u. count j (source_inputs (fixed_of c.args.rule.now) u)) c.args.w))
    c.requires.counted

pub overflow_add-places : goal.overflow_add-places
overflow_add-places c = let left : c.loop-i.i < length (source_inputs (fixed_of c.args.rule.now) c.args.w) = omega (arith, c.source_input_count-inputs.ensures.0) in
    omega (
      arith,
      counting_room (source_inputs (fixed_of c.args.rule.now) c.args.w) c.loop-i.i 255 c.source_input-input.result left c.source_input-input.ensures.0 c.loop-i.invariant,
      places_below_most c.requires.readable (c.args.w + 1) c.source_input-input.result (omega (arith, c.requires.vertex)),
      c.requires.vertex,
      c.requires.readable.whole.source,
    )

pub loop-i-preserved : goal.loop-i-preserved
loop-i-preserved c = let left : c.loop-i.i < length (source_inputs (fixed_of c.args.rule.now) c.args.w) = omega (arith, c.source_input_count-inputs.ensures.0) in
    let input_below : c.source_input-input.result < side_capacity = omega (
      arith,
      c.requires.layered.lower c.args.w c.loop-i.i c.requires.vertex left,
      c.source_input-input.ensures.0,
      c.requires.vertex,
      c.requires.readable.whole.source,
    ) in
    counting_turn (source_inputs (fixed_of c.args.rule.now) c.args.w) c.loop-i.i 255 c.source_input-input.result left c.source_input-input.ensures.0
    input_below c.loop-i.invariant

pub returns : goal.returns
returns c = counting_ends (source_inputs (fixed_of c.args.rule.now) c.args.w) c.loop-i.i (omega (arith, c.source_input_count-inputs.ensures.0))
    c.loop-i.invariant
