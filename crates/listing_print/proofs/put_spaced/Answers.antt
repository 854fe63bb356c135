use mathlib.Core.Path.{◌≡◌, refl, sym, ◌∙◌}
use mathlib.Core.List.{◌∷◌}
use Prim.Native.Nat.{◌+◌, ◌≤◌, ◌<◌}
use native.Mathlib.Omega.{arith}
use lib.IntN.{pos}
use lib.ListN.{length, get_or}
use lib.Seq.{slice}
use Rattle.definitions.specs.Fields.{signed}
use Rattle.definitions.specs.Numerals.{numeral}
use Rattle.definitions.specs.Sheet.{spaced}
use Rattle.listing_print.specs.Laid.{text_limit}
use Rattle.listing_print.specs.Rows.{numbers_in}
use Rattle.listing_print.proofs.Laying.{laid_none, laid_then, laid_as, room_next}
use Rattle.listing_print.proofs.Rows.{length-row, row_at, spaced_none, spaced-all, spaced_more, spaced-room}
use Rattle.listing_print.proofs.put_spaced.Goals as goal

pub loop-i-init : goal.loop-i-init
loop-i-init c = (omega arith, refl, laid_as (sym (spaced_none (numbers_in c.args.block.now c.args.row) c.args.first)) (laid_none c.args.at c.args.text.now))

pub put_behind-end-requires : goal.put_behind-end-requires
put_behind-end-requires c = let inside : (c.loop-i.i) < length (numbers_in c.args.block.now c.args.row) = omega (arith, c.loop-i-test.true, length-row c.args.block.now c.args.row) in
    let same : get_or (numbers_in c.args.block.now c.args.row) c.loop-i.i (pos 0) ≡ (signed c.number_at.result) = row_at c.args.block.now c.args.row c.loop-i.i (pos 0) (omega (arith, c.loop-i-test.true))
    ∙ sym c.number_at.ensures in
    let room : c.loop-i.end + length (32 ∷ numeral (signed c.number_at.result)) ≤ text_limit = room_next (spaced (slice c.args.first c.loop-i.i (numbers_in c.args.block.now c.args.row))) (32 ∷ numeral (signed c.number_at.result)) c.args.at
    (spaced-room (numbers_in c.args.block.now c.args.row) c.args.first c.loop-i.i (signed c.number_at.result) c.loop-i.invariant.0 inside same c.args.at c.requires.row_bound) c.loop-i.invariant.2 in
    room

pub loop-i-preserved : goal.loop-i-preserved
loop-i-preserved c = let inside : (c.loop-i.i) < length (numbers_in c.args.block.now c.args.row) = omega (arith, c.loop-i-test.true, length-row c.args.block.now c.args.row) in
    let same : get_or (numbers_in c.args.block.now c.args.row) c.loop-i.i (pos 0) ≡ (signed c.number_at.result) = row_at c.args.block.now c.args.row c.loop-i.i (pos 0) (omega (arith, c.loop-i-test.true))
    ∙ sym c.number_at.ensures in (
      omega (arith, c.loop-i.invariant.0),
      omega (arith, c.loop-i.invariant.1),
      laid_as (sym (spaced_more (numbers_in c.args.block.now c.args.row) c.args.first c.loop-i.i (signed c.number_at.result) c.loop-i.invariant.0 inside same))
          (laid_then c.loop-i.invariant.2 c.put_behind-end.ensures),
    )

pub returns : goal.returns
returns c = let zs = numbers_in c.args.block.now c.args.row in
    laid_as (spaced-all zs c.args.first c.loop-i.i (omega (arith, length-row c.args.block.now c.args.row))) c.loop-i.invariant.2
