-- What the search for the next one finds, and what one turn of the loop adds to the list.
-- Assumes nothing.
use mathlib.Core.Path.{◌≡◌, ◌∙◌}
use mathlib.Core.Bool.{Bool, true, false}
use mathlib.Core.List.{List}
use mathlib.Core.Logic.{⊎_elim}
use Prim.Native.Nat.{ℕ, ◌+◌, ◌<◌, ◌≤◌, max}
use native.Mathlib.Omega.{arith}
use borrow.Author.Tests.{ltb-true, ltb-false}
use lib.Dec.{ltb}
use lib.ListN.{get_or, set, replicate, length-set, length-replicate}
use lib.Seq.{get_or-set_same, get_or-set_other}
use Rattle.std.specs.declared.option.Option.{Option}
use Rattle.std.specs.declared.option.Option.TheVariants.{None, Some}
use Rattle.std.specs.Option.{MatchOption, unwrap_or}
use Rattle.definitions.specs.Graph.{slot_limit}
use Rattle.laws.proofs.Lists.{decided, true_not_false}
use Rattle.match_candidates.specs.Listed.{NextFrom, Listed}

-- ---- the next one

-- what a search from `from` up to `end` finds, or the greater of the two
pub next_from : (p : ℕ → Bool) (from end : ℕ) (r : Option ℕ)
    → MatchOption r ((k : ℕ) → from ≤ k → k < end → p k ≡ false)
    (λ i. (from ≤ i) × (i < end) × (p i ≡ true) × ((k : ℕ) → from ≤ k → k < i → p k ≡ false))
    → NextFrom p from end (unwrap_or r (max from end))
next_from p from end None none = record {
  begun = omega arith;
  near = omega arith;
  holds = λ l. absurd (omega arith);
  passed = λ k a b. none k a (omega arith);
}
next_from p from end (Some i) found = record {
  begun = found.0;
  near = omega (arith, found.1);
  holds = λ l. found.2;
  passed = found.3;
}

-- ---- the list

pub listed_none : (p : ℕ → Bool) → Listed p 0 (replicate slot_limit 0) 0
listed_none p = record {
  size = length-replicate {A = ℕ} slot_limit 0;
  few = omega arith;
  below = λ i l. absurd (omega arith);
  holds = λ i l. absurd (omega arith);
  ascending = λ i k l m. absurd (omega arith);
  every = λ v l t. absurd (omega arith);
}

module _ {p : ℕ → Bool} {n : ℕ} {list : List ℕ} {count : ℕ} (h : Listed p n list count) where
  -- numbers of which the test fails are passed
  pub listed_past : (m : ℕ) → n ≤ m → ((k : ℕ) → n ≤ k → k < m → p k ≡ false) → Listed p m list count
  listed_past m l fails = record {
    size = h.size;
    few = omega (arith, h.few);
    below = λ i k. omega (arith, h.below i k);
    holds = h.holds;
    ascending = h.ascending;
    every = λ v b t. ⊎_elim
        (λ (s : ltb v n ≡ true). h.every v (ltb-true v n s) t)
        (λ (s : ltb v n ≡ false). absurd (true_not_false t (fails v (ltb-false v n s) b)))
        (decided (ltb v n));
  }

  -- one of them
  pub listed_skip : p n ≡ false → Listed p (n + 1) list count
  listed_skip f = listed_past (n + 1) (omega arith) (λ k a b. let e : k ≡ n = omega (arith, a, b) in rw e f)

  module _ (room : count < slot_limit) (t : p n ≡ true) where
    last : get_or (set list count n) count 0 ≡ n
    last = get_or-set_same list count n 0 (omega (arith, h.size))

    before : (i : ℕ) → i < count → get_or (set list count n) i 0 ≡ get_or list i 0
    before i l = get_or-set_other list count i n 0 (λ e. omega arith)

    -- a place is the last one, or one before it
    either : {A : Type 0} (i : ℕ) → i < count + 1 → (i ≡ count → A) → (i < count → A) → A
    either i l same less = ⊎_elim
        (λ (s : ltb i count ≡ true). less (ltb-true i count s))
        (λ (s : ltb i count ≡ false). same (omega (arith, ltb-false i count s)))
        (decided (ltb i count))

    -- the next number of which the test holds is put behind the others
    pub listed_put : Listed p (n + 1) (set list count n) (count + 1)
    listed_put = record {
      size = length-set list count n ∙ h.size;
      few = omega (arith, h.few);
      below = λ i l. either i l (λ e. rw (e, last) (omega arith)) (λ b. rw (before i b) (omega (arith, h.below i b)));
      holds = λ i l. either i l (λ e. rw (e, last) t) (λ b. rw (before i b) (h.holds i b));
      ascending = λ i k l m. either k m
          (λ e. let b : i < count = omega arith in rw (e, last, before i b) (h.below i b))
          (λ b. let c : i < count = omega arith in rw (before k b, before i c) (h.ascending i k l b));
      every = λ v l s. ⊎_elim
          (λ (b : ltb v n ≡ true).
          let found = h.every v (ltb-true v n b) s in
          (found.0, omega (arith, found.1), before found.0 found.1 ∙ found.2))
          (λ (b : ltb v n ≡ false). (count, omega arith, last ∙ omega (arith, ltb-false v n b)))
          (decided (ltb v n));
    }
