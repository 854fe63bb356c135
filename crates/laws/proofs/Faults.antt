-- A test that decides a fault, and what a search by it for the lowest place finds; and a block that is judged by its faults.
-- Assumes nothing.
use mathlib.Core.Path.{◌≡◌, refl, sym}
use mathlib.Core.Bool.{Bool, true, false}
use mathlib.Core.Logic.{◌⊎◌, inl, inr, ⊎_elim}
use Prim.Native.Nat.{ℕ, ◌<◌, ◌≤◌}
use native.Mathlib.Omega.{arith}
use borrow.Author.Tests.{ltb-true, ltb-false}
use lib.Dec.{ltb}
use Rattle.definitions.specs.Lists.{lowest}
use Rattle.definitions.specs.Reply.{Reply, done, refused_at}
use Rattle.definitions.specs.Faults.{Lowest, None}
use Rattle.laws.proofs.Lists.{decided, fails, true_not_false, lowest-whole, lowest-found, lowest_passed, lowest-holds}
use Rattle.laws.proofs.Reply.{done_or_refused}

-- a search below n has found a place, or none
pub by_place {ℓ} : {P : Type ℓ} (n found : ℕ) → (found < n → P) → (n ≤ found → P) → P
by_place n found some none = ⊎_elim
    (λ (t : ltb found n ≡ true). some (ltb-true found n t))
    (λ (t : ltb found n ≡ false). none (ltb-false found n t))
    (decided (ltb found n))

-- the places with the fault are those below n that pass the test
pub record Decides (p : ℕ → Bool) (n : ℕ) (Bad : ℕ → Type 0) : Type 0 where
  pub only : (k : ℕ) → k < n → p k ≡ true → Bad k
  pub every : (k : ℕ) → Bad k → (k < n) × (p k ≡ true)

module _ {p : ℕ → Bool} {n : ℕ} {Bad : ℕ → Type 0} (decides : Decides p n Bad) where
  -- what is found is the lowest place
  pub found-lowest : lowest p n < n → Lowest Bad (lowest p n)
  found-lowest l = record {
    bad = decides.only (lowest p n) l (lowest-holds p n l);
    least = λ k below bad. true_not_false (decides.every k bad).1 (lowest_passed p n k below);
  }

  -- and where none is found there is none
  pub found_none : n ≤ lowest p n → None Bad
  found_none l k bad = true_not_false (decides.every k bad).1 (lowest_passed p n k (omega (arith, (decides.every k bad).0)))

  -- the lowest place is found
  pub lowest_is : {k : ℕ} → Lowest Bad k → lowest p n ≡ k
  lowest_is {k} low =
      let at = decides.every k low.bad in
      lowest-found p n k at.0 (λ j below. fails (λ t. low.least j below (decides.only j (omega (arith, at.0)) t))) at.1

  pub lowest-inside : {k : ℕ} → Lowest Bad k → lowest p n < n
  lowest-inside {k} low = rw (lowest_is low) (decides.every k low.bad).0

  -- and where there is none, none is found
  pub none_found : None Bad → n ≤ lowest p n
  none_found none = lowest-whole p n (λ k l. fails (λ t. none k (decides.only k l t)))

-- ---- a block that is judged by its faults

-- what a reply rules of a block: it is sound, or this kind of fault is the first that holds, with this place
pub data Ruling (Sound : Type 0) (Fault : ℕ → ℕ → Type 0) : Reply → Type 0 where
  good : Sound → Ruling Sound Fault done
  bad : {n p : ℕ} → Fault n p → Ruling Sound Fault (refused_at n p)

-- The reply rules so, no sound block has a fault, and each fault is told.
pub record Judges (Sound : Type 0) (Fault : ℕ → ℕ → Type 0) (reply : Reply) : Type 0 where
  pub ruling : Ruling Sound Fault reply
  pub apart : {n p : ℕ} → Sound → Fault n p → ⊥
  pub told : {n p : ℕ} → Fault n p → reply ≡ refused_at n p

module _ {Sound : Type 0} {Fault : ℕ → ℕ → Type 0} {reply : Reply} (judges : Judges Sound Fault reply) where
  -- done is replied for sound blocks alone
  pub done_only : reply ≡ done → Sound
  done_only e = by judges.ruling e
    where
      by : {answer : Reply} → Ruling Sound Fault answer → answer ≡ done → Sound
      by (good sound) e = sound
      by (bad {n} {p} fault) e = absurd (done_or_refused n p (sym e))

  -- and for every sound block
  pub done_every : Sound → reply ≡ done
  done_every sound = by judges.ruling
    where
      by : {answer : Reply} → Ruling Sound Fault answer → answer ≡ done
      by (good s) = refl
      by (bad fault) = absurd (judges.apart sound fault)

  -- a block is sound, or it has a fault
  pub either : Sound ⊎ ((n : ℕ) × (p : ℕ) × Fault n p)
  either = by judges.ruling
    where
      by : {answer : Reply} → Ruling Sound Fault answer → Sound ⊎ ((n : ℕ) × (p : ℕ) × Fault n p)
      by (good sound) = inl sound
      by (bad {n} {p} fault) = inr (n, p, fault)
