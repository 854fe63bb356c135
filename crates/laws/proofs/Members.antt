-- Members of lists of numbers: the test and the meaning, places of members, and members of lists that are made from others.
-- Assumes nothing.
use mathlib.Core.Path.{◌≡◌, refl, sym, ap, ◌∙◌, subst}
use mathlib.Core.Bool.{Bool, true, false, not, or-true, false≢true}
use mathlib.Core.List.{List, [], ◌∷◌, ◌++◌, map, Memᴰ}
use mathlib.Core.Logic.{⊎_elim}
use Prim.Native.Nat.{ℕ, zero, suc, ◌+◌, ◌-◌, ◌<◌, ◌≤◌}
use native.Mathlib.Nat.{not-suc-le-zero, le_of_suc-le-suc}
use native.Mathlib.Omega.{arith}
use borrow.Author.Tests.{eqb-true, eq-eqb, not-true}
use lib.Dec.{eqb, T}
use lib.ListN.{length, get_or}
use Rattle.definitions.specs.Lists.{tabulate, member, position, distinct, concat_map, range}
use Rattle.laws.proofs.Lists.{decided, true_not_false, fails, map_at, and_left, and_right}

-- ---- a test that holds, in its two spellings

pub holds : (b : Bool) → T b → b ≡ true
holds true t = refl
holds false t = absurd t

pub true_holds : (b : Bool) → b ≡ true → T b
true_holds true t = tt
true_holds false t = false≢true t

-- ---- the test of a member is the meaning

pub member_mem : (x : ℕ) (xs : List ℕ) → member x xs ≡ true → Memᴰ x xs
unfolding member
member_mem x [] h = absurd (false≢true h)
member_mem x (y ∷ ys) h =
    ⊎_elim (λ (t : eqb x y ≡ true). mathlib.Core.List.Memᴰ.head (eqb-true x y t))
    (λ (t : eqb x y ≡ false). mathlib.Core.List.Memᴰ.tail (member_mem x ys (simp t at h)))
    (decided (eqb x y))

pub mem_member : {x : ℕ} {xs : List ℕ} → Memᴰ x xs → member x xs ≡ true
unfolding member
mem_member {x} (mathlib.Core.List.Memᴰ.head {x = y} e) = simp (eq-eqb x y e)
mem_member {x} (mathlib.Core.List.Memᴰ.tail {x = y} m) = simp (mem_member m, or-true)

pub no_member : (x : ℕ) (xs : List ℕ) → (Memᴰ x xs → ⊥) → member x xs ≡ false
no_member x xs h = fails (λ t. h (member_mem x xs t))

-- a member of the first of two lists is one of both
pub member-left : (x : ℕ) (xs ys : List ℕ) → member x xs ≡ true → member x (xs ++ ys) ≡ true
member-left x xs ys h = mem_member (mathlib.Core.List.Memᴰ.append_left ys (member_mem x xs h))

-- ---- places of members

pub mem-at {ℓ} : {A : Type ℓ} (xs : List A) (i : ℕ) (d : A) → i < length xs → Memᴰ (get_or xs i d) xs
mem-at [] i d l = absurd (not-suc-le-zero l)
mem-at (x ∷ xs) zero d l = mathlib.Core.List.Memᴰ.head refl
mem-at (x ∷ xs) (suc i) d l = mathlib.Core.List.Memᴰ.tail (mem-at xs i d (le_of_suc-le-suc l))

pub mem-place {ℓ} : {A : Type ℓ} {x : A} {xs : List A} (d : A) → Memᴰ x xs → (i : ℕ) × (i < length xs) × (get_or xs i d ≡ x)
mem-place d (mathlib.Core.List.Memᴰ.head e) = (0, omega arith, sym e)
mem-place d (mathlib.Core.List.Memᴰ.tail m) = let p = mem-place d m in (suc p.0, omega (arith, p.1), p.2)

-- the first x is an x, and it is no later than another one
pub position_at : (x : ℕ) (xs : List ℕ) (d : ℕ) → member x xs ≡ true → get_or xs (position x xs) d ≡ x
unfolding member position
position_at x [] d h = absurd (false≢true h)
position_at x (y ∷ ys) d h =
    ⊎_elim (λ (t : eqb x y ≡ true). rw t (sym (eqb-true x y t)))
    (λ (t : eqb x y ≡ false). rw t (position_at x ys d (simp t at h)))
    (decided (eqb x y))

pub position_least : (xs : List ℕ) (i d : ℕ) → i < length xs → position (get_or xs i d) xs ≤ i
unfolding position
position_least [] i d l = absurd (not-suc-le-zero l)
position_least (x ∷ xs) zero d l = rw (eq-eqb x x refl) (omega arith)
position_least (x ∷ xs) (suc i) d l =
    ⊎_elim (λ (t : eqb (get_or xs i d) x ≡ true). rw t (omega arith))
    (λ (t : eqb (get_or xs i d) x ≡ false). rw t (omega (arith, position_least xs i d (le_of_suc-le-suc l))))
    (decided (eqb (get_or xs i d) x))

-- so it stands before the list's end
pub position-inside : (x : ℕ) (xs : List ℕ) → member x xs ≡ true → position x xs < length xs
position-inside x xs h =
    let found = mem-place 0 (member_mem x xs h) in
    let least : position x xs ≤ found.0 = rw found.2 at (position_least xs found.0 0 found.1) in
    omega (arith, found.1)

-- in the list of the values, its place holds the value of x
pub position-image : (f : ℕ → ℕ) (d x : ℕ) (xs : List ℕ) → member x xs ≡ true → get_or (map f xs) (position x xs) d ≡ f x
position-image f d x xs h = map_at f xs (position x xs) d d (position-inside x xs h) ∙ ap f (position_at x xs d h)

-- ---- distinct: two places hold the same only where they are the same place

pub distinct-places : (xs : List ℕ) (d i j : ℕ) → distinct xs ≡ true → i < length xs → j < length xs
    → get_or xs i d ≡ get_or xs j d → i ≡ j
unfolding distinct
distinct-places [] d i j h k l e = absurd (not-suc-le-zero k)
distinct-places (x ∷ xs) d zero zero h k l e = refl
distinct-places (x ∷ xs) d zero (suc j) h k l e =
    absurd (true_not_false (subst (λ (y : ℕ). member y xs ≡ true) (sym e) (mem_member (mem-at xs j d (le_of_suc-le-suc l))))
    (not-true (member x xs) (and_left (not (member x xs)) (distinct xs) h)))
distinct-places (x ∷ xs) d (suc i) zero h k l e =
    absurd (true_not_false (subst (λ (y : ℕ). member y xs ≡ true) e (mem_member (mem-at xs i d (le_of_suc-le-suc k))))
    (not-true (member x xs) (and_left (not (member x xs)) (distinct xs) h)))
distinct-places (x ∷ xs) d (suc i) (suc j) h k l e =
    ap suc (distinct-places xs d i j (and_right (not (member x xs)) (distinct xs) h) (le_of_suc-le-suc k) (le_of_suc-le-suc l) e)

-- a new element after the others
pub distinct_last : (xs : List ℕ) (v : ℕ) → distinct xs ≡ true → (Memᴰ v xs → ⊥) → distinct (xs ++ v ∷ []) ≡ true
unfolding distinct member
distinct_last [] v d new = refl
distinct_last (x ∷ xs) v d new =
    let others : member x xs ≡ false = not-true (member x xs) (and_left (not (member x xs)) (distinct xs) d) in
    let apart : member x (xs ++ v ∷ []) ≡ false = no_member x (xs ++ v ∷ []) (λ m. ⊎_elim
    (λ (k : Memᴰ x xs). true_not_false (mem_member k) others)
    (λ (k : Memᴰ x (v ∷ [])). new (mathlib.Core.List.Memᴰ.head (sym (mathlib.Core.List.Memᴰ.eq_of_singleton k))))
    (mathlib.Core.List.Memᴰ.append_cases xs m)) in
    simp (apart, distinct_last xs v (and_right (not (member x xs)) (distinct xs) d) (λ m. new (mathlib.Core.List.Memᴰ.tail m)))

pub places-distinct : (xs : List ℕ) (d : ℕ)
    → ((i j : ℕ) → i < length xs → j < length xs → get_or xs i d ≡ get_or xs j d → i ≡ j) → distinct xs ≡ true
unfolding distinct
places-distinct [] d h = refl
places-distinct (x ∷ xs) d h =
    let rest : (i j : ℕ) → i < length xs → j < length xs → get_or xs i d ≡ get_or xs j d → i ≡ j =
    λ i j k l e. omega (arith, h (suc i) (suc j) (omega arith) (omega arith) e) in
    let first : Memᴰ x xs → ⊥ =
    λ m. let p = mem-place d m in omega (arith, h 0 (suc p.0) (omega arith) (omega (arith, p.1)) (sym p.2)) in
    simp (no_member x xs first, places-distinct xs d rest)

-- ---- members of lists that are made from others

mem_tabulate : (n : ℕ) (f : ℕ → ℕ) (i : ℕ) → i < n → Memᴰ (f i) (tabulate n f)
unfolding tabulate
mem_tabulate zero f i l = absurd (not-suc-le-zero l)
mem_tabulate (suc n) f zero l = mathlib.Core.List.Memᴰ.head refl
mem_tabulate (suc n) f (suc i) l = mathlib.Core.List.Memᴰ.tail (mem_tabulate n (λ k. f (suc k)) i (le_of_suc-le-suc l))

pub tabulate_mem : (n : ℕ) (f : ℕ → ℕ) {x : ℕ} → Memᴰ x (tabulate n f) → (i : ℕ) × (i < n) × (x ≡ f i)
unfolding tabulate
tabulate_mem zero f m = absurd (mathlib.Core.List.Memᴰ.not-nil m)
tabulate_mem (suc n) f (mathlib.Core.List.Memᴰ.head e) = (0, omega arith, e)
tabulate_mem (suc n) f (mathlib.Core.List.Memᴰ.tail m) = let p = tabulate_mem n (λ k. f (suc k)) m in (suc p.0, omega (arith, p.1), p.2)

pub mem_range : (from to x : ℕ) → from ≤ x → x < to → Memᴰ x (range from to)
unfolding range
mem_range from to x h l =
    let e : from + (x - from) ≡ x = omega arith in
    rw e at (mem_tabulate (to - from) (λ i. from + i) (x - from) (omega arith))

pub range_mem : (from to : ℕ) {x : ℕ} → Memᴰ x (range from to) → (from ≤ x) × (x < to)
unfolding range
range_mem from to {x} m =
    let p = tabulate_mem (to - from) (λ i. from + i) m in
    (omega (arith, p.2), omega (arith, p.1, p.2))

module _ {ℓ} {A B : Type ℓ} (f : A → List B) where
  pub mem_concat : {a : A} {b : B} {xs : List A} → Memᴰ a xs → Memᴰ b (f a) → Memᴰ b (concat_map f xs)
  unfolding concat_map
  mem_concat {a} {b} (mathlib.Core.List.Memᴰ.head {x = x} {xs = xs} e) m =
      mathlib.Core.List.Memᴰ.append_left (concat_map f xs) (subst (λ (y : A). Memᴰ b (f y)) e m)
  mem_concat (mathlib.Core.List.Memᴰ.tail {x = x} n) m = mathlib.Core.List.Memᴰ.append_right (f x) (mem_concat n m)

  pub concat_mem : {b : B} (xs : List A) → Memᴰ b (concat_map f xs) → (a : A) × Memᴰ a xs × Memᴰ b (f a)
  unfolding concat_map
  concat_mem [] m = absurd (mathlib.Core.List.Memᴰ.not-nil m)
  concat_mem {b} (a ∷ xs) m =
      ⊎_elim (λ (n : Memᴰ b (f a)). (a, mathlib.Core.List.Memᴰ.head refl, n))
      (λ (n : Memᴰ b (concat_map f xs)). let p = concat_mem xs n in (p.0, mathlib.Core.List.Memᴰ.tail p.1, p.2))
      (mathlib.Core.List.Memᴰ.append_cases (f a) m)
