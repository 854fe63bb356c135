-- What a record that follows the tables can count.
-- Assumes nothing.
use mathlib.Core.Path.{◌≡◌, refl}
use mathlib.Core.Bool.{true, false, and-false}
use mathlib.Core.Logic.{⊎_elim}
use mathlib.Core.List.{List, [], ◌∷◌}
use Prim.Native.Nat.{ℕ, zero, suc, ◌-◌, ◌≤◌}
use native.Mathlib.Omega.{arith}
use borrow.Author.Tests.{leb-true, eqb-true}
use lib.Dec.{eqb, leb}
use lib.ListN.{get_or}
use Rattle.definitions.specs.Lists.{all}
use Rattle.definitions.specs.Operators.{kind_call, Counts, Row, operators, counts_of, kinds, row_of, shape_fits}
use Rattle.laws.proofs.Lists.{decided, needed, and_left, and_right}

-- a bound of a table's column, from one test of the whole table
bounded : {A : Type 0} (f : A → ℕ) (limit : ℕ) (d : A) (xs : List A) (k : ℕ) → f d ≤ limit → all (λ x. leb (f x) limit) xs ≡ true
    → f (get_or xs k d) ≤ limit
unfolding all
bounded f limit d [] k h t = h
bounded f limit d (x ∷ xs) zero h t = leb-true (f x) limit (and_left (leb (f x) limit) (all (λ y. leb (f y) limit) xs) t)
bounded f limit d (x ∷ xs) (suc k) h t = bounded f limit d xs k h (and_right (leb (f x) limit) (all (λ y. leb (f y) limit) xs) t)

operator-inputs : (operator : ℕ) → (counts_of operator).inputs ≤ 6
unfolding counts_of operators all
operator-inputs operator = bounded (λ (x : Counts). x.inputs) 6 _ operators (operator - 1) (omega arith) refl

operator-attributes : (operator : ℕ) → (counts_of operator).attributes ≤ 6
unfolding counts_of operators all
operator-attributes operator = bounded (λ (x : Counts). x.attributes) 6 _ operators (operator - 1) (omega arith) refl

kind_inputs : (kind : ℕ) → (row_of kind).greatest ≤ 6
unfolding row_of kinds all
kind_inputs kind = bounded (λ (x : Row). x.greatest) 6 _ kinds kind (omega arith) refl

kind_attributes : (kind : ℕ) → (row_of kind).attributes ≤ 6
unfolding row_of kinds all
kind_attributes kind = bounded (λ (x : Row). x.attributes) 6 _ kinds kind (omega arith) refl

module _ (kind operator n m : ℕ) (fits : shape_fits kind operator n m ≡ true) where
  -- a kind other than Call counts as its row says
  pub row-inputs : eqb kind kind_call ≡ false → n ≤ (row_of kind).greatest
  unfolding shape_fits
  row-inputs other =
      leb-true n (row_of kind).greatest (needed (leb n (row_of kind).greatest) fits (λ f. simp (other, f, and-false)))

  pub row-attributes : eqb kind kind_call ≡ false → m ≡ (row_of kind).attributes
  unfolding shape_fits
  row-attributes other =
      eqb-true m (row_of kind).attributes (needed (eqb m (row_of kind).attributes) fits (λ f. simp (other, f, and-false)))

  pub few_inputs_lem : n ≤ 6
  unfolding shape_fits
  few_inputs_lem =
      ⊎_elim (λ (call : eqb kind kind_call ≡ true).
      let same = eqb-true n (counts_of operator).inputs
      (needed (eqb n (counts_of operator).inputs) fits (λ f. simp (call, f, and-false))) in
      omega (arith, operator-inputs operator))
      (λ (other : eqb kind kind_call ≡ false).
      omega (arith, row-inputs other, kind_inputs kind))
      (decided (eqb kind kind_call))

  pub few_attributes_lem : m ≤ 6
  unfolding shape_fits
  few_attributes_lem =
      ⊎_elim (λ (call : eqb kind kind_call ≡ true).
      let same = eqb-true m (counts_of operator).attributes
      (needed (eqb m (counts_of operator).attributes) fits (λ f. simp (call, f, and-false))) in
      omega (arith, operator-attributes operator))
      (λ (other : eqb kind kind_call ≡ false).
      omega (arith, row-attributes other, kind_attributes kind))
      (decided (eqb kind kind_call))
