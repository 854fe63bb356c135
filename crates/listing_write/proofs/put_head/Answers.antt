-- The word, the number and the end of the line.
use mathlib.Core.List.{[], ◌∷◌, ◌++◌}
use Prim.Native.Nat.{◌+◌, ◌≤◌}
use native.Mathlib.Omega.{arith}
use lib.ListN.{length}
use Rattle.definitions.specs.Numerals.{decimal, numeral}
use Rattle.definitions.specs.Sheet.{opening}
use Rattle.listing_print.specs.Laid.{text_limit, Laid}
use Rattle.listing_print.proofs.Laying.{laid_then, room-first, room_next}
use Rattle.listing_write.specs.Parts.{head_text}
use Rattle.listing_write.proofs.put_head.Goals as goal

pub put_bytes-requires : goal.put_bytes-requires
unfolding opening head_text numeral
put_bytes-requires c = let whole : 0 + length (opening ++ decimal c.args.slots ++ 10 ∷ []) ≤ text_limit = omega (arith, c.requires.slots_len_bound) in
    let numbered : Laid 0 (opening ++ decimal c.args.slots) c.args.text.now c.put_natural-number_end.new.text c.put_natural-number_end.result = laid_then c.put_bytes-number.ensures c.put_natural-number_end.ensures in
    room_next (opening ++ decimal c.args.slots) (10 ∷ []) 0 whole numbered

pub returns : goal.returns
unfolding head_text numeral opening
returns c = let numbered : Laid 0 (opening ++ decimal c.args.slots) c.args.text.now c.put_natural-number_end.new.text c.put_natural-number_end.result = laid_then c.put_bytes-number.ensures c.put_natural-number_end.ensures in
    laid_then numbered c.put_bytes.ensures

pub put_natural-number_end-requires-clause-n_bound_2 : goal.put_natural-number_end-requires-clause-n_bound_2
unfolding opening head_text numeral
put_natural-number_end-requires-clause-n_bound_2 c = let whole : 0 + length (opening ++ decimal c.args.slots ++ 10 ∷ []) ≤ text_limit = omega (arith, c.requires.slots_len_bound) in
    let front : 0 + length (opening ++ decimal c.args.slots) ≤ text_limit = room-first (opening ++ decimal c.args.slots) (10 ∷ []) 0 whole in
    room_next opening (decimal c.args.slots) 0 front c.put_bytes-number.ensures
