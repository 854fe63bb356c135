-- Lists that are made of pieces, one after the other: one more piece, and how long pieces of one size are together.
-- Assumes nothing.
use mathlib.Core.Path.{◌≡◌, refl, sym, ap, ap₂, ◌∙◌}
use mathlib.Core.List.{List, [], ◌∷◌, ◌++◌, append_assoc, append-nil}
use Prim.Native.Nat.{ℕ, zero, suc, ◌+◌, ◌*◌, ◌<◌}
use native.Mathlib.Numerals.{add-one}
use native.Mathlib.Omega.{arith}
use lib.ListN.{length, get_or, length-append}
use Rattle.definitions.specs.Lists.{tabulate, concat_map}
use Rattle.laws.proofs.Ranges.{tabulate-more}

module _ {A B : Type 0} (f : A → List B) where
  pub concat_more : (xs : List A) (x : A) → concat_map f (xs ++ x ∷ []) ≡ concat_map f xs ++ f x
  unfolding concat_map
  concat_more [] x = append-nil (f x)
  concat_more (y ∷ ys) x = ap (λ l. f y ++ l) (concat_more ys x) ∙ sym (append_assoc (f y) (concat_map f ys) (f x))

  -- the pieces of n + 1 elements that are given by their numbers
  pub pieces_more : (n : ℕ) (h : ℕ → A) → concat_map f (tabulate (n + 1) h) ≡ concat_map f (tabulate n h) ++ f (h n)
  pieces_more n h =
      ap (λ k. concat_map f (tabulate k h)) (add-one n) ∙ ap (concat_map f) (tabulate-more n h) ∙ concat_more (tabulate n h) (h n)

  pub length_pieces : (size : ℕ) (d : A) (xs : List A) → ((k : ℕ) → k < length xs → length (f (get_or xs k d)) ≡ size)
      → length (concat_map f xs) ≡ size * length xs
  unfolding concat_map
  length_pieces size d [] sized = omega arith
  length_pieces size d (x ∷ xs) sized =
      let rest = length_pieces size d xs (λ k l. sized (suc k) (omega arith)) in
      omega (arith, length-append (f x) (concat_map f xs), sized 0 (omega arith))

-- pieces that are the same one by one are the same together
pub pieces_same : {B : Type 0} (f g : ℕ → List B) (n : ℕ) → ((k : ℕ) → k < n → f k ≡ g k)
    → concat_map f (tabulate n (λ k. k)) ≡ concat_map g (tabulate n (λ k. k))
unfolding concat_map tabulate
pieces_same f g zero same = refl
pieces_same f g (suc n) same =
    let numbers = tabulate n (λ k. k) in
    ap (concat_map f) (tabulate-more n (λ k. k)) ∙ concat_more f numbers n
    ∙ ap₂ ◌++◌ (pieces_same f g n (λ k l. same k (omega arith))) (same n (omega arith))
    ∙ sym (ap (concat_map g) (tabulate-more n (λ k. k)) ∙ concat_more g numbers n)
