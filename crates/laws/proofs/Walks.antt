-- A loop along a list, from the front: what is left to look at decides. With an invariant `whole ≡ test (drop i xs)` a loop needs
-- one law for a turn, one for an element that decides, and one for the end.
-- Assumes nothing.
use mathlib.Core.Path.{◌≡◌, refl, ap, ◌∙◌}
use mathlib.Core.Bool.{Bool, true, false, not, ◌&&◌, ◌||◌}
use mathlib.Core.List.{List, [], ◌∷◌, Memᴰ}
use Prim.Native.Nat.{ℕ, ◌+◌, ◌<◌, ◌≤◌}
use native.Mathlib.Numerals.{add-one}
use lib.Dec.{eqb}
use lib.ListN.{length, get_or, drop, drop_of_length-le}
use lib.Seq.{drop-cons}
use Rattle.definitions.specs.Lists.{all, any, member, distinct}

module _ {ℓ} {A : Type ℓ} (xs : List A) (i : ℕ) (d : A) (inside : i < length xs) where
  pub rest : drop i xs ≡ get_or xs i d ∷ drop (i + 1) xs
  rest = rw add-one (drop-cons xs i d inside)

  pub any_next : (p : A → Bool) → any p (drop i xs) ≡ (p (get_or xs i d) || any p (drop (i + 1) xs))
  any_next p = ap (any p) rest ∙ unfold any in refl

  pub all-next : (p : A → Bool) → all p (drop i xs) ≡ (p (get_or xs i d) && all p (drop (i + 1) xs))
  all-next p = ap (all p) rest ∙ unfold all in refl

module _ {ℓ} {A : Type ℓ} (p : A → Bool) (xs : List A) (i : ℕ) {b : Bool} where
  pub any_found : (d : A) → b ≡ any p (drop i xs) → i < length xs → p (get_or xs i d) ≡ true → b ≡ true
  any_found d h l t = h ∙ any_next xs i d l p ∙ simp t

  pub any-turn : (d : A) → b ≡ any p (drop i xs) → i < length xs → p (get_or xs i d) ≡ false → b ≡ any p (drop (i + 1) xs)
  any-turn d h l t = h ∙ any_next xs i d l p ∙ simp t

  pub any_ends : b ≡ any p (drop i xs) → length xs ≤ i → b ≡ false
  any_ends h l = h ∙ ap (any p) (drop_of_length-le xs l) ∙ unfold any in refl

  pub all_failed : (d : A) → b ≡ all p (drop i xs) → i < length xs → p (get_or xs i d) ≡ false → b ≡ false
  all_failed d h l t = h ∙ all-next xs i d l p ∙ simp t

  pub all-turn : (d : A) → b ≡ all p (drop i xs) → i < length xs → p (get_or xs i d) ≡ true → b ≡ all p (drop (i + 1) xs)
  all-turn d h l t = h ∙ all-next xs i d l p ∙ simp t

  pub all_ends : b ≡ all p (drop i xs) → length xs ≤ i → b ≡ true
  all_ends h l = h ∙ ap (all p) (drop_of_length-le xs l) ∙ unfold all in refl

-- to be a member is to equal some element
pub member-any : (x : ℕ) (xs : List ℕ) → member x xs ≡ any (eqb x) xs
unfolding member any
member-any x [] = refl
member-any x (y ∷ ys) = ap (λ (b : Bool). eqb x y || b) (member-any x ys)

-- an element is distinct from those after it, or it comes again
module _ (xs : List ℕ) (i d : ℕ) where
  distinct-next : i < length xs
      → distinct (drop i xs) ≡ (not (member (get_or xs i d) (drop (i + 1) xs)) && distinct (drop (i + 1) xs))
  distinct-next l = ap distinct (rest xs i d l) ∙ unfold distinct in refl

  pub distinct_failed : distinct xs ≡ distinct (drop i xs) → i < length xs → member (get_or xs i d) (drop (i + 1) xs) ≡ true
      → distinct xs ≡ false
  distinct_failed h l t = h ∙ distinct-next l ∙ simp t

  pub distinct-turn : distinct xs ≡ distinct (drop i xs) → i < length xs → member (get_or xs i d) (drop (i + 1) xs) ≡ false
      → distinct xs ≡ distinct (drop (i + 1) xs)
  distinct-turn h l t = h ∙ distinct-next l ∙ simp t

pub distinct_ends : (xs : List ℕ) (i : ℕ) → distinct xs ≡ distinct (drop i xs) → length xs ≤ i → distinct xs ≡ true
distinct_ends xs i h l = h ∙ ap distinct (drop_of_length-le xs l) ∙ unfold distinct in refl

-- ---- tests that agree on the elements

module _ {ℓ} {A : Type ℓ} (p q : A → Bool) where
  pub any_same : (xs : List A) → ((x : A) → Memᴰ x xs → p x ≡ q x) → any p xs ≡ any q xs
  unfolding any
  any_same [] h = refl
  any_same (x ∷ xs) h = simp (h x (Memᴰ.head refl), any_same xs (λ y m. h y (Memᴰ.tail m)))
