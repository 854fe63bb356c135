-- The number, the word, and the operator of a call, one behind the other.
use mathlib.Core.Path.{sym, ap, ◌∙◌}
use mathlib.Core.List.{[], ◌∷◌, ◌++◌, append-nil}
use Prim.Native.Nat.{◌+◌, ◌≤◌}
use lib.ListN.{length}
use Rattle.definitions.specs.Numerals.{decimal, numeral}
use Rattle.definitions.specs.Sheet.{word, operator_text}
use Rattle.listing_print.specs.Laid.{text_limit, Laid}
use Rattle.listing_print.proofs.Laying.{laid_then, laid_as, room-first, room_next}
use Rattle.listing_print.proofs.Words.{operator_none, operator-call}
use Rattle.listing_print.proofs.put_start.Goals as goal

pub put_word-word_end-requires : goal.put_word-word_end-requires
unfolding numeral
put_word-word_end-requires c = room_next (decimal c.args.slot) (32 ∷ word c.args.kind) _ (room-first ((decimal c.args.slot) ++ (32 ∷ word c.args.kind)) (operator_text c.args.kind c.args.operator) _ c.requires.operator_bound) c.put_natural-number_end.ensures

pub returns-then-kind-ne-KIND_CALL : goal.returns-then-kind-ne-KIND_CALL
unfolding numeral
returns-then-kind-ne-KIND_CALL c = let worded : Laid c.args.at ((decimal c.args.slot) ++ (32 ∷ word c.args.kind)) c.args.text.now c.put_word-word_end.new.text c.put_word-word_end.result = laid_then c.put_natural-number_end.ensures c.put_word-word_end.ensures in
    laid_as (sym (ap (λ t. ((decimal c.args.slot) ++ (32 ∷ word c.args.kind)) ++ t) (operator_none c.args.kind c.args.operator c.if-kind-ne-KIND_CALL.true) ∙ append-nil ((decimal c.args.slot) ++ (32 ∷ word c.args.kind))))
    worded

pub put_bytes-digits-requires : goal.put_bytes-digits-requires
unfolding numeral
put_bytes-digits-requires c = let called : c.args.at + length (((decimal c.args.slot) ++ (32 ∷ word c.args.kind)) ++ 32 ∷ decimal c.args.operator) ≤ text_limit = rw (operator-call c.args.kind c.args.operator c.if-kind-ne-KIND_CALL.false) at c.requires.operator_bound in
    let worded : Laid c.args.at ((decimal c.args.slot) ++ (32 ∷ word c.args.kind)) c.args.text.now c.put_word-word_end.new.text c.put_word-word_end.result = laid_then c.put_natural-number_end.ensures c.put_word-word_end.ensures in
    let room = called in
    room-first (32 ∷ []) (decimal c.args.operator) _ (room_next ((decimal c.args.slot) ++ (32 ∷ word c.args.kind)) (32 ∷ decimal c.args.operator) _ room worded)

pub returns : goal.returns
unfolding numeral
returns c = let worded : Laid c.args.at ((decimal c.args.slot) ++ (32 ∷ word c.args.kind)) c.args.text.now c.put_word-word_end.new.text c.put_word-word_end.result = laid_then c.put_natural-number_end.ensures c.put_word-word_end.ensures in
    laid_as (sym (ap (λ t. ((decimal c.args.slot) ++ (32 ∷ word c.args.kind)) ++ t) (operator-call c.args.kind c.args.operator c.if-kind-ne-KIND_CALL.false)))
    (laid_then worded (laid_then c.put_bytes-digits.ensures c.put_natural.ensures))

pub put_natural-number_end-requires-clause-n_bound_2 : goal.put_natural-number_end-requires-clause-n_bound_2
unfolding numeral
put_natural-number_end-requires-clause-n_bound_2 c = room-first (decimal c.args.slot) (32 ∷ word c.args.kind) _ (room-first ((decimal c.args.slot) ++ (32 ∷ word c.args.kind)) (operator_text c.args.kind c.args.operator) _ c.requires.operator_bound)

pub put_natural-requires-clause-n_bound_2 : goal.put_natural-requires-clause-n_bound_2
unfolding numeral
put_natural-requires-clause-n_bound_2 c = let called : c.args.at + length (((decimal c.args.slot) ++ (32 ∷ word c.args.kind)) ++ 32 ∷ decimal c.args.operator) ≤ text_limit = rw (operator-call c.args.kind c.args.operator c.if-kind-ne-KIND_CALL.false) at c.requires.operator_bound in
    let worded : Laid c.args.at ((decimal c.args.slot) ++ (32 ∷ word c.args.kind)) c.args.text.now c.put_word-word_end.new.text c.put_word-word_end.result = laid_then c.put_natural-number_end.ensures c.put_word-word_end.ensures in
    let room = called in room_next (32 ∷ []) (decimal c.args.operator) _ (room_next ((decimal c.args.slot) ++ (32 ∷ word c.args.kind)) (32 ∷ decimal c.args.operator) _ room worded) c.put_bytes-digits.ensures
