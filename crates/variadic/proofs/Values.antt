-- The results of an expansion's expressions, found without the expansion.
-- Assumes nothing.
use mathlib.Core.Path.{◌≡◌, refl, ap, ap₂, ◌∙◌}
use mathlib.Core.List.{List, [], ◌∷◌, map}
use mathlib.Core.Option.{Option}
use Prim.Native.Nat.{ℕ, zero, suc}
use lib.IntN.{ℤ}
use Rattle.definitions.specs.Lists.{tabulate, foldl}
use Rattle.definitions.specs.Rule.{add, Expression, anything, constant, access, apply, index, sum}
use Rattle.definitions.specs.Attributes.{combine, result_of}
use Rattle.definitions.specs.Variadic.{VariadicRule, added, source_copy, source_number, seen}
use Rattle.variadic.specs.Values.{added_up, value}

module _ (read : ℕ → ℕ → Option ℤ) where
  fold_results : (e : Expression) (es : List Expression)
      → result_of read (foldl (apply add) e es) ≡ foldl (combine add) (result_of read e) (map (result_of read) es)
  unfolding foldl result_of
  fold_results e [] = refl
  fold_results e (x ∷ es) = fold_results (apply add e x) es

  -- a sum gives its terms' results, added from the first up
  pub added-result : (es : List Expression) → result_of read (added es) ≡ added_up (map (result_of read) es)
  unfolding added added_up result_of
  added-result [] = refl
  added-result (e ∷ es) = fold_results e es

mapped_tabulate : {A B : Type 0} (f : A → B) (n : ℕ) (h : ℕ → A) → map f (tabulate n h) ≡ tabulate n (λ k. f (h k))
unfolding tabulate
mapped_tabulate f zero h = refl
mapped_tabulate f (suc n) h = ap (λ l. f (h zero) ∷ l) (mapped_tabulate f n (λ k. h (suc k)))

pub same_tabulate : {A : Type 0} (n : ℕ) (f h : ℕ → A) → ((k : ℕ) → f k ≡ h k) → tabulate n f ≡ tabulate n h
unfolding tabulate
same_tabulate zero f h e = refl
same_tabulate (suc n) f h e = ap₂ ◌∷◌ (e zero) (same_tabulate n (λ k. f (suc k)) (λ k. h (suc k)) (λ k. e (suc k)))

module _ (r : VariadicRule) (n : ℕ) (read : ℕ → ℕ → Option ℤ) where
  -- what an access reads where the index is i: a template's copy of that index
  abbrev read_copy : ℕ → ℕ → ℕ → Option ℤ
  read_copy i v b = read (source_number r n (source_copy r n i v)) b

  -- The result of an expression of the fixed rule is that of the block's, by the index.
  pub seen-result : (e : Expression) (i : ℕ) → result_of read (seen r n e i) ≡ value read_copy n e i
  unfolding seen result_of value
  seen-result anything i = refl
  seen-result (constant z) i = refl
  seen-result (access v b) i = refl
  seen-result (apply o x y) i = ap₂ (combine o) (seen-result x i) (seen-result y i)
  seen-result index i = refl
  seen-result (sum x) i =
      added-result read (tabulate n (λ k. seen r n x (suc k)))
      ∙ ap added_up (mapped_tabulate (result_of read) n (λ k. seen r n x (suc k))
      ∙ same_tabulate n (λ k. result_of read (seen r n x (suc k))) (λ k. value read_copy n x (suc k)) (λ k. seen-result x (suc k)))
