-- Each word is the one of its kind.
use mathlib.Core.Path.{sym, ap}
use mathlib.Core.List.{◌∷◌}
use Rattle.definitions.specs.Sheet.{words, word}
use Rattle.listing_print.proofs.Laying.{laid_as}
use Rattle.listing_print.proofs.Words.{word_none}
use Rattle.listing_print.proofs.put_word.Goals as goal

pub put_bytes-requires : goal.put_bytes-requires
unfolding word words
put_bytes-requires c = rw c.if-kind-eq-KIND_CONST.true at c.requires

pub returns-then-kind-eq-KIND_CONST : goal.returns-then-kind-eq-KIND_CONST
unfolding word words
returns-then-kind-eq-KIND_CONST c = laid_as (sym (ap (λ k. 32 ∷ word k) c.if-kind-eq-KIND_CONST.true)) c.put_bytes.ensures

pub put_bytes-requires-then-kind-eq-KIND_VARIABLE : goal.put_bytes-requires-then-kind-eq-KIND_VARIABLE
unfolding word words
put_bytes-requires-then-kind-eq-KIND_VARIABLE c = rw c.if-kind-eq-KIND_VARIABLE.true at c.requires

pub returns-then-kind-eq-KIND_VARIABLE : goal.returns-then-kind-eq-KIND_VARIABLE
unfolding word words
returns-then-kind-eq-KIND_VARIABLE c = laid_as (sym (ap (λ k. 32 ∷ word k) c.if-kind-eq-KIND_VARIABLE.true)) c.put_bytes-then-kind-eq-KIND_VARIABLE.ensures

pub put_bytes-requires-then-kind-eq-KIND_CALL : goal.put_bytes-requires-then-kind-eq-KIND_CALL
unfolding word words
put_bytes-requires-then-kind-eq-KIND_CALL c = rw c.if-kind-eq-KIND_CALL.true at c.requires

pub returns-then-kind-eq-KIND_CALL : goal.returns-then-kind-eq-KIND_CALL
unfolding word words
returns-then-kind-eq-KIND_CALL c = laid_as (sym (ap (λ k. 32 ∷ word k) c.if-kind-eq-KIND_CALL.true)) c.put_bytes-then-kind-eq-KIND_CALL.ensures

pub put_bytes-requires-then-kind-eq-KIND_TUPLE : goal.put_bytes-requires-then-kind-eq-KIND_TUPLE
unfolding word words
put_bytes-requires-then-kind-eq-KIND_TUPLE c = rw c.if-kind-eq-KIND_TUPLE.true at c.requires

pub returns-then-kind-eq-KIND_TUPLE : goal.returns-then-kind-eq-KIND_TUPLE
unfolding word words
returns-then-kind-eq-KIND_TUPLE c = laid_as (sym (ap (λ k. 32 ∷ word k) c.if-kind-eq-KIND_TUPLE.true)) c.put_bytes-then-kind-eq-KIND_TUPLE.ensures

pub put_bytes-requires-then-kind-eq-KIND_PROJ : goal.put_bytes-requires-then-kind-eq-KIND_PROJ
unfolding word words
put_bytes-requires-then-kind-eq-KIND_PROJ c = rw c.if-kind-eq-KIND_PROJ.true at c.requires

pub returns-then-kind-eq-KIND_PROJ : goal.returns-then-kind-eq-KIND_PROJ
unfolding word words
returns-then-kind-eq-KIND_PROJ c = laid_as (sym (ap (λ k. 32 ∷ word k) c.if-kind-eq-KIND_PROJ.true)) c.put_bytes-then-kind-eq-KIND_PROJ.ensures

pub returns : goal.returns
returns c = let none =
    word_none c.args.kind c.if-kind-eq-KIND_CONST.false
    c.if-kind-eq-KIND_VARIABLE.false c.if-kind-eq-KIND_CALL.false c.if-kind-eq-KIND_TUPLE.false c.if-kind-eq-KIND_PROJ.false in
    laid_as (sym (ap (λ w. 32 ∷ w) none)) c.put_bytes-2.ensures
