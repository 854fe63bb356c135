-- A list that is filled up to a length.
-- Assumes nothing.
use mathlib.Core.Path.{◌≡◌, refl, sym, ap, ◌∙◌}
use mathlib.Core.Bool.{true, false}
use mathlib.Core.List.{List, [], ◌∷◌}
use mathlib.Core.Logic.{⊎_elim}
use Prim.Native.Nat.{ℕ, zero, suc, ◌≤◌}
use native.Mathlib.Nat.{not-suc-le-zero, le_of_suc-le-suc}
use native.Mathlib.Omega.{arith}
use borrow.Author.Tests.{ltb-true, ltb-false}
use lib.Dec.{ltb}
use lib.ListN.{length, get_or, take, get_or-eq_default}
use lib.Seq.{get_or-take, length-take-le}
use Rattle.definitions.specs.Lists.{padded}
use Rattle.laws.proofs.Lists.{decided}

module _ {A : Type 0} (d : A) where
  pub length-padded : (n : ℕ) (xs : List A) → length xs ≤ n → length (padded n d xs) ≡ n
  unfolding padded
  length-padded zero [] l = refl
  length-padded zero (x ∷ xs) l = absurd (not-suc-le-zero l)
  length-padded (suc n) [] l = ap suc (length-padded n [] (omega arith))
  length-padded (suc n) (x ∷ xs) l = ap suc (length-padded n xs (le_of_suc-le-suc l))

  -- what stands past its own end is what it is filled up with
  pub padded-at : (n : ℕ) (xs : List A) (j : ℕ) → get_or (padded n d xs) j d ≡ get_or xs j d
  unfolding padded
  padded-at zero xs j = refl
  padded-at (suc n) [] zero = refl
  padded-at (suc n) [] (suc j) = padded-at n [] j
  padded-at (suc n) (x ∷ xs) zero = refl
  padded-at (suc n) (x ∷ xs) (suc j) = padded-at n xs j

  -- the first n elements of a list that holds d from n on
  pub taken_at : (n : ℕ) (xs : List A) → n ≤ length xs → ((i : ℕ) → n ≤ i → get_or xs i d ≡ d) → (i : ℕ) → get_or (take n xs) i d ≡ get_or xs i d
  taken_at n xs fits rest i =
      ⊎_elim (λ (t : ltb i n ≡ true). get_or-take n xs i d (ltb-true i n t))
      (λ (t : ltb i n ≡ false).
      get_or-eq_default (take n xs) d {n = i} (omega (arith, length-take-le n xs fits, ltb-false i n t))
      ∙ sym (rest i (ltb-false i n t)))
      (decided (ltb i n))
