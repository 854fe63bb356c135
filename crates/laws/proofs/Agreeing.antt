-- Two tests that agree below n hold first at the same place.
use mathlib.Core.Path.{◌≡◌, refl, ap₂}
use mathlib.Core.Bool.{Bool, cond}
use Prim.Native.Nat.{ℕ, zero, suc, ◌<◌}
use native.Mathlib.Omega.{arith}
use lib.Dec.{ltb}
use Rattle.definitions.specs.Lists.{lowest}

pub lowest_same : (p q : ℕ → Bool) (n : ℕ) → ((k : ℕ) → k < n → p k ≡ q k) → lowest p n ≡ lowest q n
unfolding lowest
lowest_same p q zero same = refl
lowest_same p q (suc n) same =
    ap₂ (λ (a : ℕ) (b : Bool). cond (ltb a n) a (cond b n (suc n))) (lowest_same p q n (λ k l. same k (omega arith))) (same n (omega arith))
