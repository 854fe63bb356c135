-- An array that the library makes by a closure from each place's number is the table of what the closure answers.
use mathlib.Core.Path.{◌≡◌, sym, subst, ap, ◌∙◌}
use mathlib.Core.List.{List}
use Prim.Native.Nat.{ℕ, zero, suc, ◌+◌, ◌<◌}
use native.Mathlib.Nat.{not-suc-le-zero, le_of_suc-le-suc}
use native.Mathlib.Omega.{arith}
use lib.ListN.{length, get_or}
use denote.Param.Members.{Mut}
use Rattle.std.specs.Array.{IsFromFnResult, IsFromFnResultFrom}
use Rattle.std.specs.Fn.{Called}
use Rattle.std.proofs.lemmas.List.{same_lists}
use Rattle.definitions.specs.Lists.{tabulate}
use Rattle.laws.proofs.Lists.{length-tabulate, get_or_tabulate}

module _ {F B : Type 0} {g : Mut F (ℕ × Unit {0}) B} (p : ℕ → B) (f : F) (says : (x : ℕ) (b : B) (q : F) → Called g f (x, tt) b q → (q ≡ f) × (b ≡ p x)) (ys : List B) where
  each_place : (i n : ℕ) → IsFromFnResultFrom g f ys i n → (j : ℕ) (d : B) → j < n → get_or ys (i + j) d ≡ p (i + j)
  each_place i zero made j d l = absurd (not-suc-le-zero l)
  each_place i (suc n) made zero d l =
      let here : i ≡ i + 0 = omega arith in
      subst (λ k. get_or ys k d ≡ p k) here (made.2.1 d ∙ (says i made.1 made.0 made.3).1)
  each_place i (suc n) made (suc j) d l =
      let there : i + 1 + j ≡ i + suc j = omega arith in
      let others : IsFromFnResultFrom g f ys (i + 1) n = subst (λ q. IsFromFnResultFrom g q ys (i + 1) n) (says i made.1 made.0 made.3).0 made.4 in
      subst (λ k. get_or ys k d ≡ p k) there (each_place (i + 1) n others j d (le_of_suc-le-suc l))

  pub table_of_calls : (n : ℕ) → IsFromFnResult g f ys n → ys ≡ tabulate n p
  table_of_calls n made =
      same_lists ys (tabulate n p) (made.long ∙ sym (length-tabulate n p))
      (λ k d l.
      let below : k < n = omega (arith, l, made.long) in
      let from_zero : 0 + k ≡ k = omega arith in
      subst (λ i. get_or ys i d ≡ p i) from_zero (each_place 0 n made.each k d below) ∙ sym (get_or_tabulate n p k d below))
