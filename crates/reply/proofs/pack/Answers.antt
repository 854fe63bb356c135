-- Each case has the definition's number; a value of 24 bits fits above the place.
use mathlib.Core.Path.{◌≡◌}
use Prim.Native.Nat.{ℕ, ◌<◌}
use native.Mathlib.Omega.{arith}
use Rattle.definitions.specs.declared.Refusal.{Refusal}
use Rattle.std.specs.Prelude.{Ok, Err}
use Rattle.definitions.specs.Reply.{Reply, number_of, index_of, value_beside, value_limit, packed}
use borrow.Author.Rules.{rules}
use Rattle.reply.proofs.pack.Goals as goal

-- the value is the one whose bound is required
done_small : (reply : Reply) (value : ℕ) → reply ≡ Ok value → value_beside reply < value_limit → value < value_limit
unfolding value_beside
done_small reply value e l = rw e at l

refused_small : (reply : Reply) (why : Refusal) → reply ≡ Err why → value_beside reply < value_limit → why.place.value < value_limit
unfolding value_beside
refused_small reply why e l = rw e at l

pub overflow_mul-result : goal.overflow_mul-result
overflow_mul-result c = search (rules, done_small c.args.reply c.in-Ok.value c.in-Ok.is c.requires)

pub overflow_mul-result-in-Err-2 : goal.overflow_mul-result-in-Err-2
overflow_mul-result-in-Err-2 c = let value_small : c.in-Err.refusal.place.value < value_limit = refused_small c.args.reply c.in-Err.refusal c.in-Err.is c.requires in
    search (rules, value_small)

pub overflow_add-result-in-Err : goal.overflow_add-result-in-Err
overflow_add-result-in-Err c = let value_small : c.in-Err.refusal.place.value < value_limit = refused_small c.args.reply c.in-Err.refusal c.in-Err.is c.requires in
    search (rules, value_small)

pub returns-in-Ok : goal.returns-in-Ok
unfolding packed number_of index_of value_beside
returns-in-Ok c = rw (c.in-Ok.is, c.from.ensures) (omega arith)

pub returns-in-Err : goal.returns-in-Err
unfolding packed number_of index_of value_beside
returns-in-Err c = rw (c.in-Err.is, c.from-number.ensures, c.from-index.ensures, c.from-value.ensures)
