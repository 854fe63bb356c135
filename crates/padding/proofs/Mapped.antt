-- What `padded` makes where each place holds what a function makes of a list's element there.
-- Assumes nothing.
use mathlib.Core.Path.{◌≡◌, sym, ◌∙◌}
use mathlib.Core.List.{List, map}
use Prim.Native.Nat.{ℕ, ◌<◌}
use native.Mathlib.Omega.{arith}
use lib.ListN.{length, get_or, length-map}
use Rattle.std.proofs.lemmas.List.{get_or-map}
use Rattle.definitions.specs.Lists.{padded}

-- `made` is what `padded` ensures, and `says` what a call of its closure does
pub padded_map : {A B : Type 0} (n : ℕ) (f : A → B) (xs : List A) (d : A) {rest : B} {count : ℕ} {ys : List B} {post : ℕ → B → Type 0} → length xs ≡ count
    → ((zs : List B) → length zs ≡ count → ((i : ℕ) → i < count → (x : B) → post i x → x ≡ get_or zs i rest) → ys ≡ padded n rest zs)
    → ((i : ℕ) → i < count → (x : B) → post i x → x ≡ f (get_or xs i d)) → ys ≡ padded n rest (map f xs)
padded_map n f xs d {rest} size made says = made (map f xs) (length-map xs f ∙ size)
    (λ i l x p. says i l x p ∙ sym (get_or-map f xs i d rest (omega arith)))
