-- What opens the list, its first number, and the others behind it, a space before each.
use mathlib.Core.Path.{◌≡◌, sym, ap, ◌∙◌}
use mathlib.Core.List.{◌++◌, append-nil}
use Prim.Native.Nat.{◌+◌, ◌≤◌, ◌<◌}
use native.Mathlib.Omega.{arith}
use lib.IntN.{pos}
use lib.ListN.{length, drop}
use Rattle.definitions.specs.Fields.{signed}
use Rattle.definitions.specs.Numerals.{numeral}
use Rattle.definitions.specs.Sheet.{spaced, joined}
use Rattle.listing_print.specs.Laid.{text_limit}
use Rattle.listing_print.specs.Rows.{numbers_in}
use Rattle.listing_print.proofs.Laying.{laid_then, laid_as, room-first, room_next}
use Rattle.listing_print.proofs.Rows.{length-row, row_at, joined_none, joined_some}
use Rattle.listing_print.proofs.put_list.Goals as goal

pub returns-then-count-eq0 : goal.returns-then-count-eq0
returns-then-count-eq0 c = let none = joined_none (numbers_in c.args.block.now c.args.row) (length-row c.args.block.now c.args.row ∙ c.if-count-eq0.true) in
    laid_as (sym (ap (λ t. c.args.opening.now ++ t) none ∙ append-nil c.args.opening.now)) c.put_bytes-start.ensures

pub put_number-next-requires : goal.put_number-next-requires
put_number-next-requires c = let split : joined (numbers_in c.args.block.now c.args.row) ≡ numeral (signed c.number_at.result) ++ spaced (drop 1 (numbers_in c.args.block.now c.args.row)) = let some : 0 < c.args.row.count = omega (arith, c.if-count-eq0.false) in
    joined_some (numbers_in c.args.block.now c.args.row) (signed c.number_at.result) (omega (arith, length-row c.args.block.now c.args.row))
    (row_at c.args.block.now c.args.row 0 (pos 0) some ∙ sym c.number_at.ensures) in
    let room : c.put_bytes-start.result + length (numeral (signed c.number_at.result) ++ spaced (drop 1 (numbers_in c.args.block.now c.args.row))) ≤ text_limit = rw split at (room_next c.args.opening.now (joined (numbers_in c.args.block.now c.args.row)) c.args.at c.requires.row_bound
    c.put_bytes-start.ensures) in
    room-first (numeral (signed c.number_at.result)) (spaced (drop 1 (numbers_in c.args.block.now c.args.row))) _ room

pub returns : goal.returns
returns c = let split : joined (numbers_in c.args.block.now c.args.row) ≡ numeral (signed c.number_at.result) ++ spaced (drop 1 (numbers_in c.args.block.now c.args.row)) = let some : 0 < c.args.row.count = omega (arith, c.if-count-eq0.false) in
    joined_some (numbers_in c.args.block.now c.args.row) (signed c.number_at.result) (omega (arith, length-row c.args.block.now c.args.row))
    (row_at c.args.block.now c.args.row 0 (pos 0) some ∙ sym c.number_at.ensures) in
    laid_as (ap (λ t. c.args.opening.now ++ t) (sym split))
    (laid_then c.put_bytes-start.ensures
    (laid_then c.put_number-next.ensures c.put_spaced.ensures))

pub put_spaced-requires-clause-row_bound : goal.put_spaced-requires-clause-row_bound
put_spaced-requires-clause-row_bound c = let split : joined (numbers_in c.args.block.now c.args.row) ≡ numeral (signed c.number_at.result) ++ spaced (drop 1 (numbers_in c.args.block.now c.args.row)) = let some : 0 < c.args.row.count = omega (arith, c.if-count-eq0.false) in
    joined_some (numbers_in c.args.block.now c.args.row) (signed c.number_at.result) (omega (arith, length-row c.args.block.now c.args.row))
    (row_at c.args.block.now c.args.row 0 (pos 0) some ∙ sym c.number_at.ensures) in
    let room : c.put_bytes-start.result + length (numeral (signed c.number_at.result) ++ spaced (drop 1 (numbers_in c.args.block.now c.args.row))) ≤ text_limit = rw split at (room_next c.args.opening.now (joined (numbers_in c.args.block.now c.args.row)) c.args.at c.requires.row_bound
    c.put_bytes-start.ensures) in
    room_next (numeral (signed c.number_at.result)) (spaced (drop 1 (numbers_in c.args.block.now c.args.row))) _ room c.put_number-next.ensures
