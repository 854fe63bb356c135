-- A list of faults is answered by the first that holds, and by done where none does; a list of replies by its first refusal.
-- Assumes nothing.
use mathlib.Core.Path.{◌≡◌, refl, sym, ap, ◌∙◌}
use mathlib.Core.Bool.{Bool, true, false, cond}
use mathlib.Core.List.{List, [], ◌∷◌, ◌++◌}
use mathlib.Core.Option.{none, some}
use Prim.Native.Nat.{ℕ, ◌<◌, ◌^◌}
use native.Mathlib.Omega.{arith}
use Rattle.definitions.specs.declared.Refusal.{Refusal}
use Rattle.std.specs.Prelude.{Ok, Err, IsErrAnd}
use Rattle.std.proofs.lemmas.Result.{err_from_is_err_and}
use Rattle.definitions.specs.Reply.{Reply, done, refusal_at, refused_at, refused, number_of, index_of, value_beside, value_limit, packed, number_in, place_in, value_in, Fault, fault, judged, first_refusal, where_done}

-- ---- what the C side reads in the number that it gets

module _ (reply : Reply) (number : number_of reply < 2 ^ 8) where
  pub number-packed : number_in (packed reply) ≡ number_of reply
  unfolding packed number_in
  number-packed = omega arith

  module _ (index : index_of reply < 2 ^ 32) where
    pub place-packed : place_in (packed reply) ≡ index_of reply
    unfolding packed place_in
    place-packed = omega arith

    pub value-packed : value_in (packed reply) ≡ value_beside reply
    unfolding packed value_in
    value-packed = omega arith

-- ---- replies without a value, and without a place too

-- no value stands beside it
abbrev pub Valueless : Reply → Type 0
Valueless reply = value_beside reply ≡ 0

-- what has neither a place nor a value
pub record Plain (reply : Reply) : Type 0 where
  pub index : index_of reply ≡ 0
  pub value : Valueless reply

pub plain_done : Plain done
unfolding index_of value_beside
plain_done = record { index = refl; value = refl }

pub refused_valueless : (n p : ℕ) → Valueless (refused_at n p)
unfolding refusal_at value_beside
refused_valueless n p = refl

pub plain-refused : (n : ℕ) → Plain (refused n)
unfolding refusal_at index_of value_beside
plain-refused n = record { index = refl; value = refl }

-- a test that is done or refuses
pub test_valueless : (n : ℕ) (passes : Bool) → Valueless (cond passes done (refused n))
test_valueless n true = plain_done.value
test_valueless n false = refused_valueless n 0

-- such a value fits in the bits that a value has
pub valueless_fits : {reply answer : Reply} → reply ≡ answer → Valueless answer → value_beside reply < value_limit
valueless_fits e h = rw e (omega (arith, h))

-- done without a value is done with value 0
pub done_plain : {reply : Reply} {value : ℕ} → Valueless reply → reply ≡ Ok value → reply ≡ done
unfolding value_beside
done_plain {reply} {value} h e = let none : value ≡ 0 = rw e at h in e ∙ ap Ok none

-- what a `?` gives back is the refusal that it met
pub passed_on : {reply : Reply} {why : Refusal} → IsErrAnd reply (λ (other : Refusal). other ≡ why) → reply ≡ Err why
passed_on {reply} h = let p = err_from_is_err_and reply h in p.1 ∙ ap Err p.2

-- what a lent block holds at the return
pub where_done_lem : {reply : Reply} {value : ℕ} (after before : List ℕ) → reply ≡ Ok value → where_done reply after before ≡ after
unfolding where_done
where_done_lem after before e = rw (e, where_done)

pub where_refused : {reply : Reply} {why : Refusal} (after before : List ℕ) → reply ≡ Err why → where_done reply after before ≡ before
unfolding where_done
where_refused after before e = rw (e, where_done)

pub done_refused : {value : ℕ} {why : Refusal} → Ok value ≡ Err why → ⊥
done_refused e = let z : ◌≡◌ {A = ℕ} 0 1 = cc in omega arith

pub done_or_refused : (n p : ℕ) → done ≡ refused_at n p → ⊥
done_or_refused n p e = done_refused e

-- ---- a list of faults

pub judged_valueless : (faults : List Fault) → Valueless (judged faults)
unfolding judged
judged_valueless [] = plain_done.value
judged_valueless (fault n none ∷ faults) = judged_valueless faults
judged_valueless (fault n (some at) ∷ faults) = refused_valueless n at

-- two lists of faults, one after the other: the second is asked where the first has none
pub judged-next : (faults next : List Fault) → judged faults ≡ done → judged (faults ++ next) ≡ judged next
unfolding judged
judged-next [] next e = refl
judged-next (fault n none ∷ faults) next e = judged-next faults next e
judged-next (fault n (some at) ∷ faults) next e = absurd (done_or_refused n at (sym e))

pub judged-first : {why : Refusal} (faults next : List Fault) → judged faults ≡ Err why → judged (faults ++ next) ≡ Err why
unfolding judged
judged-first [] next e = absurd (done_refused e)
judged-first (fault n none ∷ faults) next e = judged-first faults next e
judged-first (fault n (some at) ∷ faults) next e = e

-- ---- the first refusal of a list of replies

pub first_done : {reply : Reply} {value : ℕ} (replies : List Reply) → reply ≡ Ok value → first_refusal (reply ∷ replies) ≡ first_refusal replies
unfolding first_refusal
first_done replies e = rw (e, first_refusal)

pub first-refused : {reply : Reply} (refusal : Refusal) (replies : List Reply) → reply ≡ Err refusal
    → first_refusal (reply ∷ replies) ≡ Err refusal
unfolding first_refusal
first-refused refusal replies e = rw (e, first_refusal)

pub first_last : (reply : Reply) → Valueless reply → first_refusal (reply ∷ []) ≡ reply
unfolding first_refusal value_beside
first_last (Ok value) h = sym (ap Ok h)
first_last (Err why) h = refl

-- where no reply refuses, each is done
pub first-all : {value : ℕ} (reply : Reply) (replies : List Reply) → Valueless reply → first_refusal (reply ∷ replies) ≡ Ok value
    → (reply ≡ done) × (first_refusal replies ≡ Ok value)
unfolding first_refusal value_beside
first-all (Ok own) replies valueless h = (ap Ok valueless, h)
first-all (Err why) replies valueless h = let z : ◌≡◌ {A = ℕ} 0 1 = cc in absurd (omega arith)
