-- The numbers 0, 1, .. n - 1, and when two lists of numbers are the same.
-- Assumes nothing.
use mathlib.Core.Path.{◌≡◌, refl, ap, ◌∙◌}
use mathlib.Core.Bool.{true, false, false≢true}
use mathlib.Core.List.{List, [], ◌∷◌, ◌++◌}
use Prim.Native.Nat.{ℕ, zero, suc, ◌+◌, ◌-◌, ◌<◌}
use native.Mathlib.Nat.{sub-zero, zero-add}
use native.Mathlib.Omega.{arith}
use borrow.Author.Tests.{eq-eqb, eqb-true}
use lib.Dec.{eqb}
use lib.ListN.{length, get_or}
use Rattle.definitions.specs.Lists.{tabulate, all_pairs, range}
use Rattle.laws.proofs.Lists.{and_left, and_right, length-tabulate, get_or_tabulate}

pub length-range : (n : ℕ) → length (range 0 n) ≡ n
unfolding range
length-range n = length-tabulate (n - 0) (λ i. 0 + i) ∙ sub-zero n

pub range_at : (n i d : ℕ) → i < n → get_or (range 0 n) i d ≡ i
unfolding range
range_at n i d h = get_or_tabulate (n - 0) (λ k. 0 + k) i d (omega arith) ∙ zero-add i

pub tabulate-more {ℓ} : {A : Type ℓ} (n : ℕ) (f : ℕ → A) → tabulate (suc n) f ≡ tabulate n f ++ f n ∷ []
unfolding tabulate
tabulate-more zero f = refl
tabulate-more (suc n) f = ap (λ l. f zero ∷ l) (tabulate-more n (λ k. f (suc k)))

pub range_more : (n : ℕ) → range 0 (suc n) ≡ range 0 n ++ n ∷ []
unfolding range
range_more n = simp (sub-zero, zero-add) (tabulate-more n (λ i. i))

-- ---- lists of numbers that are the same

pub same_lists : (xs ys : List ℕ) → all_pairs eqb xs ys ≡ true → xs ≡ ys
unfolding all_pairs
same_lists [] [] h = refl
same_lists [] (y ∷ ys) h = absurd (false≢true h)
same_lists (x ∷ xs) [] h = absurd (false≢true h)
same_lists (x ∷ xs) (y ∷ ys) h =
    let head : x ≡ y = eqb-true x y (and_left (eqb x y) (all_pairs eqb xs ys) h) in
    let tail : xs ≡ ys = same_lists xs ys (and_right (eqb x y) (all_pairs eqb xs ys) h) in
    cc

pub same_self : (xs : List ℕ) → all_pairs eqb xs xs ≡ true
unfolding all_pairs
same_self [] = refl
same_self (x ∷ xs) = simp (eq-eqb x x refl, same_self xs)
