-- What the library's `all` over the numbers from a up to b gives, in this project's words.
use mathlib.Core.Path.{◌≡◌, refl, sym, subst, ◌∙◌}
use mathlib.Core.Bool.{Bool, true, false}
use mathlib.Core.List.{List}
use Prim.Native.Nat.{ℕ, ◌+◌, ◌-◌, ◌<◌}
use native.Mathlib.Omega.{arith}
use lib.ListN.{length, get_or}
use denote.Param.Members.{Mut}
use borrow.Author.Rules.{rules}
use borrow.Author.Tests.{tests}
use Rattle.std.specs.declared.option.Option.{Option}
use Rattle.std.specs.declared.ops.Range.{Range}
use Rattle.std.specs.Bool.{MatchBool}
use Rattle.std.specs.Fn.{Called}
use Rattle.std.specs.Iterator.{YieldsThen}
use Rattle.std.specs.List.{FoldsTo, AllWithin, HoldsAt, range_with_len}
use Rattle.std.specs.Option.{MatchOption}
use Rattle.std.proofs.iter.Yields.{nat_range_steps}
use Rattle.std.proofs.lemmas.Iterator.{YieldsList-from_range, cases_from_all}
use Rattle.std.proofs.lemmas.List.FromFn.{length-range_with_len, get_or-range_with_len}
use Rattle.definitions.specs.Lists.{all_below}
use Rattle.laws.proofs.Lists.{all_below_every, all_below_fails}

module _ (p : ℕ → Bool) (a n : ℕ) where
  by_cases : (r : Bool) → MatchBool r (AllWithin (λ x. p x ≡ true) (range_with_len a n) 0 (length (range_with_len a n))) ((k : ℕ) × (k < length (range_with_len a n)) × HoldsAt (λ x. p x ≡ false) (range_with_len a n) k)
      → r ≡ all_below (λ i. p (a + i)) n
  by_cases true each =
      sym (all_below_every (λ i. p (a + i)) n
      (λ k l. rw (get_or-range_with_len a n k 0 l) at (each k 0 (omega arith) (omega (arith, length-range_with_len a n)))))
  by_cases false some =
      let l : some.0 < n = omega (arith, some.1, length-range_with_len a n) in
      sym (all_below_fails (λ i. p (a + i)) n some.0 l (rw (get_or-range_with_len a n some.0 0 l) at (some.2 0)))

module _ {F : Type 0} {g : Mut F (ℕ × Unit {0}) Bool} (p : ℕ → Bool) (a b : ℕ) (u : Range ℕ) (f : F) (r : Bool) where
  pub all_between : (xs : List ℕ) × (o : Option ℕ) × (j : F) × YieldsThen nat_range_steps (record { start = a; end = b }) xs o u × FoldsTo (λ p x q. Called g p (x, tt) true q) f xs j × MatchOption o (r ≡ true) (λ x. (r ≡ false) × ((h : F) × Called g j (x, tt) false h)) → ((x : ℕ) (b : Bool) (q : F) → Called g f (x, tt) b q → (q ≡ f) × (b ≡ p x)) → r ≡ all_below (λ i. p (a + i)) (b - a)
  all_between ran says =
      by_cases p a (b - a) r
      (cases_from_all u f r (λ x. p x ≡ true) (λ x. p x ≡ false) ran (YieldsList-from_range a b (b - a) refl refl)
      (λ x q k. ((says x true q k).0, sym (says x true q k).1)) (λ x q k. sym (says x false q k).1))
