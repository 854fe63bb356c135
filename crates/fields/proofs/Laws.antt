-- Runs of equal bytes: by their places, and by parts that leave no gap.
-- Assumes nothing.
use mathlib.Core.Path.{◌≡◌}
use mathlib.Core.Bool.{true, false}
use mathlib.Core.Logic.{⊎_elim}
use mathlib.Core.List.{List, [], ◌∷◌}
use Prim.Native.Nat.{ℕ, ◌+◌, ◌-◌, ◌<◌, ◌≤◌}
use native.Mathlib.Omega.{arith}
use borrow.Author.Tests.{eq-eqb, eqb-true, ltb-true, ltb-false}
use lib.Dec.{eqb, ltb}
use Rattle.definitions.specs.Fields.{byte_at, filled}
use Rattle.laws.proofs.Lists.{decided, fails, and_left, and_right, all_below_every, all_below_at}
use Rattle.laws.proofs.Tests.{same_tests, all_of, conjunction, Remains}

module _ (block : List ℕ) (value : ℕ) where
  -- a run is filled where each of its places is
  pub filled_each : (from to : ℕ) → ((k : ℕ) → from ≤ k → k < to → byte_at block k ≡ value) → filled block from to value ≡ true
  unfolding filled
  filled_each from to each =
      all_below_every (λ i. eqb (byte_at block (from + i)) value) (to - from)
      (λ i l. eq-eqb (byte_at block (from + i)) value (each (from + i) (omega arith) (omega arith)))

  pub filled-place : (from to : ℕ) → filled block from to value ≡ true → (k : ℕ) → from ≤ k → k < to → byte_at block k ≡ value
  unfolding filled
  filled-place from to h k a l =
      let i : from + (k - from) ≡ k = omega arith in
      rw i at (eqb-true (byte_at block (from + (k - from))) value
      (all_below_at (λ j. eqb (byte_at block (from + j)) value) (to - from) (k - from) h (omega arith)))

  -- a byte that differs
  pub filled_fails : (from to k : ℕ) → from ≤ k → k < to → (byte_at block k ≡ value → ⊥) → filled block from to value ≡ false
  filled_fails from to k a l other = fails (λ t. other (filled-place from to t k a l))

  -- a run in two parts, which may overlap
  pub filled_parts : (from middle rest to : ℕ) → from ≤ rest → rest ≤ middle → middle ≤ to
      → Remains (filled block from to value) (filled block from middle value ∷ filled block rest to value ∷ [])
  unfolding conjunction all_of
  filled_parts from middle rest to a b l = record {
    same = same_tests
        (λ h.
        simp (
          filled_each from middle (λ k m n. filled-place from to h k (omega arith) (omega arith)),
          filled_each rest to (λ k m n. filled-place from to h k (omega arith) (omega arith)),
        ))
        (λ h.
        let first = and_left (filled block from middle value) (filled block rest to value) h in
        let second = and_right (filled block from middle value) (filled block rest to value) h in
        filled_each from to
        (λ k m n.
        ⊎_elim (λ (t : ltb k middle ≡ true). filled-place from middle first k m (ltb-true k middle t))
        (λ (t : ltb k middle ≡ false). filled-place rest to second k (omega (arith, ltb-false k middle t)) n)
        (decided (ltb k middle))));
  }
