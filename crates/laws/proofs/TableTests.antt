-- A test of every element, or of some, of a list made number by number, by the numbers.
-- Assumes nothing.
use mathlib.Core.Path.{◌≡◌, refl, sym, ap, ◌∙◌}
use mathlib.Core.Bool.{Bool, ◌&&◌, ◌||◌, or-false}
use mathlib.Core.List.{List, [], ◌∷◌, ◌++◌}
use Prim.Native.Nat.{ℕ, zero, suc}
use native.Mathlib.Omega.{arith}
use borrow.Author.Rules.{rules}
use Rattle.definitions.specs.Lists.{tabulate, all_below, any_below, all, any}
use Rattle.laws.proofs.Ranges.{tabulate-more}

module _ {ℓ} {A : Type ℓ} (p : A → Bool) where
  all-last : (xs : List A) (x : A) → all p (xs ++ x ∷ []) ≡ (all p xs && p x)
  unfolding all
  all-last [] x = search rules
  all-last (y ∷ ys) x = ap (λ b. p y && b) (all-last ys x) ∙ grind arith

  any-last : (xs : List A) (x : A) → any p (xs ++ x ∷ []) ≡ (any p xs || p x)
  unfolding any
  any-last [] x = or-false (p x)
  any-last (y ∷ ys) x = ap (λ b. p y || b) (any-last ys x) ∙ grind arith

  pub all_tabulated : (n : ℕ) (f : ℕ → A) → all_below (λ k. p (f k)) n ≡ all p (tabulate n f)
  unfolding all_below all tabulate
  all_tabulated zero f = refl
  all_tabulated (suc n) f = ap (λ b. b && p (f n)) (all_tabulated n f) ∙ sym (ap (all p) (tabulate-more n f) ∙ all-last (tabulate n f) (f n))

  pub any_tabulated : (n : ℕ) (f : ℕ → A) → any_below (λ k. p (f k)) n ≡ any p (tabulate n f)
  unfolding any_below any tabulate
  any_tabulated zero f = refl
  any_tabulated (suc n) f = ap (λ b. b || p (f n)) (any_tabulated n f) ∙ sym (ap (any p) (tabulate-more n f) ∙ any-last (tabulate n f) (f n))
