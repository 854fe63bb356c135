-- Lists that are given by their elements' numbers, and the fields of a copy as such a list.
-- Assumes nothing.
use mathlib.Core.Path.{◌≡◌, refl, sym, ap, ap₂, ◌∙◌}
use mathlib.Core.Bool.{true, false}
use mathlib.Core.List.{List, [], ◌∷◌, map, append-nil}
use mathlib.Core.Logic.{⊎_elim}
use Prim.Native.Nat.{ℕ, zero, suc, ◌*◌, ◌/◌, ◌%◌, ◌<◌, ◌≤◌}
use native.Mathlib.Nat.{zero-mul, one-mul, div-eq_of_lt, mod-eq_of_lt}
use native.Mathlib.Omega.{arith}
use borrow.Author.Tests.{eqb-true}
use lib.Dec.{eqb}
use lib.ListN.{length, get_or}
use Rattle.definitions.specs.Lists.{tabulate, concat_map}
use Rattle.definitions.specs.Variadic.{VariadicRule, original, copy_index, fields}
use Rattle.laws.proofs.Lists.{decided}
use Rattle.variadic_order.specs.Sides.{place_count, place_of, field_count, field_place, field_index}
use Rattle.variadic_layout.specs.Written.{CopyOf}

module _ {A : Type 0} where
  pub tabulate_same : (k : ℕ) (f h : ℕ → A) → ((i : ℕ) → i < k → f i ≡ h i) → tabulate k f ≡ tabulate k h
  unfolding tabulate
  tabulate_same zero f h e = refl
  tabulate_same (suc k) f h e =
      ap₂ ◌∷◌ (e zero (omega arith)) (tabulate_same k (λ i. f (suc i)) (λ i. h (suc i)) (λ i l. e (suc i) (omega arith)))

  pub tabulate_list : (xs : List ℕ) (f h : ℕ → A) → ((j : ℕ) → j < length xs → f j ≡ h (get_or xs j 0)) → tabulate (length xs) f ≡ map h xs
  unfolding tabulate
  tabulate_list [] f h e = refl
  tabulate_list (x ∷ xs) f h e =
      ap₂ ◌∷◌ (e zero (omega arith)) (tabulate_list xs (λ i. f (suc i)) h (λ j l. e (suc j) (omega arith)))

pub map-tabulate : {A B : Type 0} (h : A → B) (k : ℕ) (f : ℕ → A) → map h (tabulate k f) ≡ tabulate k (λ i. h (f i))
unfolding tabulate
map-tabulate h zero f = refl
map-tabulate h (suc k) f = ap (λ l. h (f zero) ∷ l) (map-tabulate h k (λ i. f (suc i)))

-- one row of n
one_row : {P : Type 0} (n m : ℕ) (naming : ℕ → P → P) (place : ℕ → P) → m ≤ 1
    → concat_map (λ p. tabulate n (λ k. naming (suc k) p)) (tabulate m place) ≡ tabulate (m * n) (λ i. naming (suc (i % n)) (place (i / n)))
unfolding tabulate concat_map
one_row n zero naming place l = rw (zero-mul n)
one_row n (suc zero) naming place l =
    append-nil (tabulate n (λ k. naming (suc k) (place zero)))
    ∙ tabulate_same n (λ k. naming (suc k) (place zero)) (λ i. naming (suc (i % n)) (place (i / n)))
    (λ i b. rw (mod-eq_of_lt b, div-eq_of_lt b) refl)
    ∙ ap (λ (k : ℕ). tabulate k (λ i. naming (suc (i % n)) (place (i / n)))) (sym (one-mul n))
one_row n (suc (suc m)) naming place l = absurd (omega arith)

module _ {block : List ℕ} {first base tuple n c : ℕ} (copy : CopyOf block first base tuple n c) (r : VariadicRule) {P : Type 0}
    (naming : ℕ → P → P) (place : ℕ → P) where
  pub field_row : fields r n (eqb c tuple) naming (copy_index c) (tabulate (place_count block first (original c)) (λ i. place (place_of block first (original c) i)))
      ≡ tabulate (field_count block first base tuple n c)
      (λ i. naming (field_index block first base tuple n c i) (place (field_place block first base tuple n c i)))
  unfolding fields field_count field_index field_place
  field_row = ⊎_elim
      (λ (t : eqb c tuple ≡ true).
      let here : c ≡ tuple = eqb-true c tuple t in
      let one : place_count block first (original c) ≤ 1 = rw here (copy.layout.one_field (rw here at copy.below)) in
      rw t (one_row n (place_count block first (original c)) naming (λ i. place (place_of block first (original c) i)) one))
      (λ (t : eqb c tuple ≡ false).
      rw t (map-tabulate (naming (copy_index c)) (place_count block first (original c)) (λ i. place (place_of block first (original c) i))))
      (decided (eqb c tuple))
