-- A list that is built from the front, and an array that is filled so: its places past those that are built hold a value that
-- counts as none.
-- Assumes nothing.
use mathlib.Core.Path.{◌≡◌, refl, sym, ap, ◌∙◌}
use mathlib.Core.Bool.{true, false}
use mathlib.Core.List.{List, [], ◌∷◌, ◌++◌, map, map-append}
use mathlib.Core.Logic.{⊎_elim}
use Prim.Native.Nat.{ℕ, zero, suc, ◌+◌, ◌-◌, ◌<◌}
use native.Mathlib.Nat.{not-suc-le-zero}
use native.Mathlib.Numerals.{add-one}
use native.Mathlib.Omega.{arith}
use borrow.Author.Tests.{ltb-true, ltb-false}
use lib.Dec.{ltb}
use lib.ListN.{length, get_or, set, replicate, length-append, get_or-append}
use lib.Seq.{get_or_at, set_at, append_snoc}
use Rattle.definitions.specs.Lists.{build}
use Rattle.laws.proofs.Lists.{decided}

module _ {ℓ} {A : Type ℓ} (f : List A → ℕ → A) where
  pub length-build : (n : ℕ) → length (build f n) ≡ n
  unfolding build
  length-build zero = refl
  length-build (suc n) = simp (length-append, length-build n) (omega arith)

  -- element k is made from those before it
  pub build-at : (n k : ℕ) (d : A) → k < n → get_or (build f n) k d ≡ f (build f k) k
  unfolding build
  build-at zero k d l = absurd (not-suc-le-zero l)
  build-at (suc n) k d l =
      ⊎_elim (λ (s : ltb k n ≡ true).
      let m : k < length (build f n) = rw (length-build n) (ltb-true k n s) in
      get_or-append (build f n) (f (build f n) n ∷ []) d k m ∙ build-at n k d (ltb-true k n s))
      (λ (s : ltb k n ≡ false).
      let e : k ≡ n = omega (arith, ltb-false k n s) in
      rw e (get_or_at (build f n) (f (build f n) n) [] d n (length-build n)))
      (decided (ltb k n))

  -- one more element, in an array whose places past those that are built hold d
  pub build_more : (limit n : ℕ) (d x : A) → n < limit → x ≡ f (build f n) n
      → set (build f n ++ replicate (limit - n) d) n x ≡ build f (n + 1) ++ replicate (limit - (n + 1)) d
  build_more limit n d x l e =
      let m : limit - n ≡ suc (limit - (n + 1)) = omega arith in
      ap (λ (k : ℕ). set (build f n ++ replicate k d) n x) m
      ∙ set_at (build f n) d (replicate (limit - (n + 1)) d) x n (length-build n)
      ∙ ap (λ (y : A). build f n ++ y ∷ replicate (limit - (n + 1)) d) e
      ∙ sym (append_snoc (build f n) (f (build f n) n) (replicate (limit - (n + 1)) d))
      ∙ ap (λ (l : List A). l ++ replicate (limit - (n + 1)) d) grown
    where
      grown : build f n ++ (f (build f n) n ∷ []) ≡ build f (n + 1)
      grown = rw add-one (unfold build in refl)

module _ {ℓ} {A : Type ℓ} where
  pub get_or_none : (n u : ℕ) (d : A) → get_or (replicate n d) u d ≡ d
  get_or_none zero u d = refl
  get_or_none (suc n) zero d = refl
  get_or_none (suc n) (suc u) d = get_or_none n u d

  -- places that hold d are as no places
  pub get_or_padded : (xs : List A) (n u : ℕ) (d : A) → get_or (xs ++ replicate n d) u d ≡ get_or xs u d
  get_or_padded [] n u d = get_or_none n u d
  get_or_padded (x ∷ xs) n zero d = refl
  get_or_padded (x ∷ xs) n (suc u) d = get_or_padded xs n u d

-- Where h takes what f makes to what g makes, it takes the list that f builds to the list that g builds.
module _ {ℓ} {A B : Type ℓ} (h : A → B) (f : List A → ℕ → A) (g : List B → ℕ → B)
    (e : (xs : List A) (k : ℕ) → h (f xs k) ≡ g (map h xs) k) where
  pub map-build : (n : ℕ) → map h (build f n) ≡ build g n
  unfolding build
  map-build zero = refl
  map-build (suc n) = simp (map-append, e, map-build n)
