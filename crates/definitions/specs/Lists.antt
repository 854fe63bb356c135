-- Words about lists and tests that the other files use.
-- Assumes nothing.
use Rattle.std.specs.Prelude.{Bool, true, false, cond, not, ◌&&◌, ◌||◌, List, [], ◌∷◌, ◌++◌, ℕ, zero, suc, ◌+◌, ◌-◌, eqb, ltb, leb}
use Rattle.std.proofs.Math.Option.{Option, none, some}

-- low ≤ k ≤ high
abbrev pub within : ℕ → ℕ → ℕ → Bool
within low k high = leb low k && leb k high

-- p holds of every k below n
unfoldable pub all_below : (ℕ → Bool) → ℕ → Bool
all_below p zero = true
all_below p (suc n) = all_below p n && p n

-- p holds of some k below n
unfoldable pub any_below : (ℕ → Bool) → ℕ → Bool
any_below p zero = false
any_below p (suc n) = any_below p n || p n

-- the lowest k below n of which p holds, or n where there is none
unfoldable pub lowest : (ℕ → Bool) → ℕ → ℕ
lowest p zero = zero
lowest p (suc n) = let k = lowest p n in cond (ltb k n) k (cond (p n) n (suc n))

-- f 0 + .. + f (n - 1)
unfoldable pub total : (ℕ → ℕ) → ℕ → ℕ
total f zero = 0
total f (suc n) = total f n + f n

module _ {ℓ} {A : Type ℓ} where
  -- f 0, f 1, .. f (n - 1)
  unfoldable pub tabulate : ℕ → (ℕ → A) → List A
  tabulate zero f = []
  tabulate (suc n) f = f zero ∷ tabulate n (λ k. f (suc k))

  -- n elements, element k made by f from the list of those before it
  unfoldable pub build : (List A → ℕ → A) → ℕ → List A
  build f zero = []
  build f (suc n) = let before = build f n in before ++ f before n ∷ []

  -- p holds of every element
  unfoldable pub all : (A → Bool) → List A → Bool
  all p [] = true
  all p (x ∷ xs) = p x && all p xs

  -- p holds of some element
  unfoldable pub any : (A → Bool) → List A → Bool
  any p [] = false
  any p (x ∷ xs) = p x || any p xs

  unfoldable pub filter : (A → Bool) → List A → List A
  filter p [] = []
  filter p (x ∷ xs) = let rest = filter p xs in cond (p x) (x ∷ rest) rest

  -- the list, followed by as many copies of x as make n elements
  unfoldable pub padded : ℕ → A → List A → List A
  padded zero x xs = xs
  padded (suc n) x [] = x ∷ padded n x []
  padded (suc n) x (y ∷ ys) = y ∷ padded n x ys

module _ {ℓ κ} {A : Type ℓ} {B : Type κ} where
  unfoldable pub foldl : (B → A → B) → B → List A → B
  foldl f b [] = b
  foldl f b (x ∷ xs) = foldl f (f b x) xs

  -- f's lists, one after the other
  unfoldable pub concat_map : (A → List B) → List A → List B
  concat_map f [] = []
  concat_map f (x ∷ xs) = f x ++ concat_map f xs

  -- r holds of the elements pair by pair, and the lists are equally long
  unfoldable pub all_pairs : (A → B → Bool) → List A → List B → Bool
  all_pairs r [] [] = true
  all_pairs r [] (y ∷ ys) = false
  all_pairs r (x ∷ xs) [] = false
  all_pairs r (x ∷ xs) (y ∷ ys) = r x y && all_pairs r xs ys

  -- the first result that f gives
  unfoldable pub first_some : (A → Option B) → List A → Option B
  first_some f [] = none
  first_some f (x ∷ xs) = let rest = first_some f xs in elim (f x) [ none ↦ rest | some y ↦ some y ]

unfoldable pub member : ℕ → List ℕ → Bool
member x [] = false
member x (y ∷ ys) = eqb x y || member x ys

-- how often x stands in the list
unfoldable pub count : ℕ → List ℕ → ℕ
count x [] = 0
count x (y ∷ ys) = cond (eqb x y) 1 0 + count x ys

-- the place of the first x, or the length where there is none
unfoldable pub position : ℕ → List ℕ → ℕ
position x [] = zero
position x (y ∷ ys) = let rest = position x ys in cond (eqb x y) zero (suc rest)

unfoldable pub distinct : List ℕ → Bool
distinct [] = true
distinct (x ∷ xs) = not (member x xs) && distinct xs

-- from, from + 1, .. to - 1
unfoldable pub range : ℕ → ℕ → List ℕ
range from to = tabulate (to - from) (λ i. from + i)
