-- Those numbers below n of which a test holds, lowest first: which they are, and where each stands in the list.
-- Assumes nothing.
use mathlib.Core.Path.{◌≡◌, refl, sym, ap, ◌∙◌}
use mathlib.Core.Bool.{Bool, true, false, cond, not}
use mathlib.Core.List.{List, [], ◌∷◌, ◌++◌, map, Memᴰ}
use mathlib.Core.Logic.{⊎_elim}
use Prim.Native.Nat.{ℕ, zero, suc, ◌+◌, ◌<◌, ◌≤◌}
use native.Mathlib.Nat.{not-suc-le-zero}
use native.Mathlib.Omega.{arith}
use borrow.Author.Tests.{eq-eqb, not-true, ltb-true, ltb-false}
use lib.Dec.{eqb, ltb}
use lib.ListN.{length, get_or, length-append}
use Rattle.definitions.specs.Lists.{tabulate, filter, member, position, distinct, range}
use Rattle.laws.proofs.Lists.{decided, bit, true_not_false, and_left, and_right}
use Rattle.laws.proofs.Ranges.{length-range, range_at, range_more}
use Rattle.laws.proofs.Members.{mem_range, mem-at, mem_member, no_member, position_at, position_least, distinct-places, places-distinct, range_mem}

-- ---- any list

pub filter_mem : (p : ℕ → Bool) (xs : List ℕ) {x : ℕ} → Memᴰ x (filter p xs) → Memᴰ x xs
unfolding filter
filter_mem p [] m = m
filter_mem p (y ∷ xs) {x} m = ⊎_elim
    (λ (t : p y ≡ true).
    ⊎_elim (λ (e : x ≡ y). mathlib.Core.List.Memᴰ.head e) (λ (k : Memᴰ x (filter p xs)). mathlib.Core.List.Memᴰ.tail (filter_mem p xs k))
    (mathlib.Core.List.Memᴰ.cases_cons (simp t at m)))
    (λ (t : p y ≡ false). mathlib.Core.List.Memᴰ.tail (filter_mem p xs (simp t at m)))
    (decided (p y))

pub filter-holds : (p : ℕ → Bool) (xs : List ℕ) {x : ℕ} → Memᴰ x (filter p xs) → p x ≡ true
unfolding filter
filter-holds p [] m = absurd (mathlib.Core.List.Memᴰ.not-nil m)
filter-holds p (y ∷ xs) {x} m = ⊎_elim
    (λ (t : p y ≡ true).
    ⊎_elim (λ (e : x ≡ y). rw e t) (λ (k : Memᴰ x (filter p xs)). filter-holds p xs k)
    (mathlib.Core.List.Memᴰ.cases_cons (simp t at m)))
    (λ (t : p y ≡ false). filter-holds p xs (simp t at m))
    (decided (p y))

pub mem_filter : (p : ℕ → Bool) (xs : List ℕ) {x : ℕ} → Memᴰ x xs → p x ≡ true → Memᴰ x (filter p xs)
unfolding filter
mem_filter p [] m h = m
mem_filter p (y ∷ xs) {x} m h = ⊎_elim
    (λ (e : x ≡ y). let t : p y ≡ true = rw (sym e) h in rw t (mathlib.Core.List.Memᴰ.head e))
    (λ (k : Memᴰ x xs). ⊎_elim
    (λ (t : p y ≡ true). rw t (mathlib.Core.List.Memᴰ.tail (mem_filter p xs k h)))
    (λ (t : p y ≡ false). rw t (mem_filter p xs k h))
    (decided (p y)))
    (mathlib.Core.List.Memᴰ.cases_cons m)

filter-append : (p : ℕ → Bool) (xs ys : List ℕ) → filter p (xs ++ ys) ≡ filter p xs ++ filter p ys
unfolding filter
filter-append p [] ys = refl
filter-append p (x ∷ xs) ys = ⊎_elim
    (λ (t : p x ≡ true). simp (t, filter-append p xs ys))
    (λ (t : p x ≡ false). simp (t, filter-append p xs ys))
    (decided (p x))

-- two tests that agree on the members leave the same list
pub filter_same : (p q : ℕ → Bool) (xs : List ℕ) → ((x : ℕ) → Memᴰ x xs → p x ≡ q x) → filter p xs ≡ filter q xs
unfolding filter
filter_same p q [] h = refl
filter_same p q (x ∷ xs) h =
    let rest = filter_same p q xs (λ y m. h y (mathlib.Core.List.Memᴰ.tail m)) in
    rw (h x (mathlib.Core.List.Memᴰ.head refl), rest)

pub distinct-values : (h : ℕ → ℕ) (p : ℕ → Bool) (xs : List ℕ) → distinct xs ≡ true
    → ((i j : ℕ) → Memᴰ i xs → Memᴰ j xs → h i ≡ h j → i ≡ j) → distinct (map h (filter p xs)) ≡ true
unfolding filter distinct
distinct-values h p [] d apart = refl
distinct-values h p (x ∷ xs) d apart =
    let rest : distinct (map h (filter p xs)) ≡ true =
    distinct-values h p xs (and_right (not (member x xs)) (distinct xs) d)
    (λ i j k l. apart i j (mathlib.Core.List.Memᴰ.tail k) (mathlib.Core.List.Memᴰ.tail l)) in
    let new : Memᴰ (h x) (map h (filter p xs)) → ⊥ =
    λ m. let found = mathlib.Core.List.Memᴰ.of_map h (filter p xs) m in
    let inside = filter_mem p xs found.1 in
    let same : x ≡ found.0 = apart x found.0 (mathlib.Core.List.Memᴰ.head refl) (mathlib.Core.List.Memᴰ.tail inside) (sym found.2) in
    true_not_false (mem_member (mathlib.Core.List.Memᴰ.cast same inside))
    (not-true (member x xs) (and_left (not (member x xs)) (distinct xs) d)) in
    ⊎_elim
    (λ (t : p x ≡ true). simp (t, no_member (h x) (map h (filter p xs)) new, rest))
    (λ (t : p x ≡ false). simp (t, rest))
    (decided (p x))

distinct_filter : (p : ℕ → Bool) (xs : List ℕ) → distinct xs ≡ true → distinct (filter p xs) ≡ true
unfolding filter distinct
distinct_filter p [] d = refl
distinct_filter p (x ∷ xs) d =
    let rest = distinct_filter p xs (and_right (not (member x xs)) (distinct xs) d) in
    let new : Memᴰ x (filter p xs) → ⊥ =
    λ m. true_not_false (mem_member (filter_mem p xs m)) (not-true (member x xs) (and_left (not (member x xs)) (distinct xs) d)) in
    ⊎_elim
    (λ (t : p x ≡ true). simp (t, no_member x (filter p xs) new, rest))
    (λ (t : p x ≡ false). simp (t, rest))
    (decided (p x))

-- ---- the numbers below n

pub distinct-range : (n : ℕ) → distinct (range 0 n) ≡ true
distinct-range n = places-distinct (range 0 n) 0 (λ i j k l e.
    let inside : i < n = rw (length-range n) at k in
    let within : j < n = rw (length-range n) at l in
    sym (range_at n i 0 inside) ∙ e ∙ range_at n j 0 within)

-- where x is not in a list, it is found behind it
pub position-behind : (x : ℕ) (xs ys : List ℕ) → member x xs ≡ false → position x (xs ++ x ∷ ys) ≡ length xs
unfolding member position
position-behind x [] ys h = rw (eq-eqb x x refl) refl
position-behind x (y ∷ xs) ys h = ⊎_elim
    (λ (t : eqb x y ≡ true). absurd (true_not_false (rw t) h))
    (λ (t : eqb x y ≡ false). rw (t, position-behind x xs ys (simp t at h)))
    (decided (eqb x y))

-- what stands in a list is found there, whatever follows
pub position_before : (x : ℕ) (xs ys : List ℕ) → member x xs ≡ true → position x (xs ++ ys) ≡ position x xs
unfolding member position
position_before x [] ys h = absurd (true_not_false h refl)
position_before x (y ∷ xs) ys h = ⊎_elim
    (λ (t : eqb x y ≡ true). rw t)
    (λ (t : eqb x y ≡ false). rw (t, position_before x xs ys (simp t at h)))
    (decided (eqb x y))

module _ (p : ℕ → Bool) where
  pub filtered_more : (n : ℕ) → filter p (range 0 (suc n)) ≡ filter p (range 0 n) ++ cond (p n) (n ∷ []) []
  unfolding filter
  filtered_more n = ap (filter p) (range_more n) ∙ filter-append p (range 0 n) (n ∷ [])

  -- one more where the test holds
  pub filtered_count : (n : ℕ) → length (filter p (range 0 (suc n))) ≡ length (filter p (range 0 n)) + cond (p n) 1 0
  filtered_count n =
      let one : length (cond (p n) (n ∷ []) []) ≡ cond (p n) 1 0 =
      ⊎_elim (λ (t : p n ≡ true). rw t) (λ (t : p n ≡ false). rw t) (decided (p n)) in
      ap length (filtered_more n)
      ∙ length-append (filter p (range 0 n)) (cond (p n) (n ∷ []) [])
      ∙ ap (λ (k : ℕ). length (filter p (range 0 n)) + k) one

  pub filtered_most : (n : ℕ) → length (filter p (range 0 n)) ≤ n
  unfolding filter range tabulate
  filtered_most zero = omega arith
  filtered_most (suc n) = omega (arith, filtered_count n, filtered_most n, bit (p n))

  -- more, once a number is passed of which it holds
  pub filtered_after : (n k : ℕ) → k < n → p k ≡ true → length (filter p (range 0 k)) < length (filter p (range 0 n))
  filtered_after zero k l t = absurd (not-suc-le-zero l)
  filtered_after (suc n) k l t = ⊎_elim
      (λ (s : ltb k n ≡ true). omega (arith, filtered_count n, filtered_after n k (ltb-true k n s) t))
      (λ (s : ltb k n ≡ false).
      let e : k ≡ n = omega (arith, ltb-false k n s) in
      let one : ◌≡◌ {A = ℕ} (cond (p n) 1 0) 1 = rw (ap p (sym e) ∙ t) in
      rw e (omega (arith, filtered_count n, one)))
      (decided (ltb k n))

  -- all of them, where it holds of all
  pub filtered_all : (n : ℕ) → ((k : ℕ) → k < n → p k ≡ true) → length (filter p (range 0 n)) ≡ n
  unfolding filter range tabulate
  filtered_all zero every = refl
  filtered_all (suc n) every =
      let one : ◌≡◌ {A = ℕ} (cond (p n) 1 0) 1 = rw (every n (omega arith)) in
      omega (arith, filtered_count n, one, filtered_all n (λ k l. every k (omega arith)))

  pub filtered_holds : (n t d : ℕ) → t < length (filter p (range 0 n)) → p (get_or (filter p (range 0 n)) t d) ≡ true
  filtered_holds n t d l = filter-holds p (range 0 n) (mem-at (filter p (range 0 n)) t d l)

  pub filtered_below : (n t d : ℕ) → t < length (filter p (range 0 n)) → get_or (filter p (range 0 n)) t d < n
  filtered_below n t d l = (range_mem 0 n (filter_mem p (range 0 n) (mem-at (filter p (range 0 n)) t d l))).1

  -- element t of the list stands at place t and nowhere else
  pub filtered_place : (n t d : ℕ) → t < length (filter p (range 0 n))
      → position (get_or (filter p (range 0 n)) t d) (filter p (range 0 n)) ≡ t
  filtered_place n t d l =
      let xs = filter p (range 0 n) in
      let x = get_or xs t d in
      let least : position x xs ≤ t = position_least xs t d l in
      distinct-places xs d (position x xs) t (distinct_filter p (range 0 n) (distinct-range n)) (omega arith) l
      (position_at x xs d (mem_member (mem-at xs t d l)))

  -- a number of which the test holds stands behind the lower ones of which it holds
  pub filtered_position : (n k : ℕ) → k < n → p k ≡ true → position k (filter p (range 0 n)) ≡ length (filter p (range 0 k))
  filtered_position zero k l h = absurd (not-suc-le-zero l)
  filtered_position (suc n) k l h = ⊎_elim
      (λ (t : ltb k n ≡ true).
      let below = ltb-true k n t in
      let found : Memᴰ k (filter p (range 0 n)) = mem_filter p (range 0 n) (mem_range 0 n k (omega arith) below) h in
      ap (position k) (filtered_more n)
      ∙ position_before k (filter p (range 0 n)) (cond (p n) (n ∷ []) []) (mem_member found)
      ∙ filtered_position n k below h)
      (λ (t : ltb k n ≡ false).
      let same : k ≡ n = omega (arith, ltb-false k n t) in
      let holds : p n ≡ true = rw (sym same) h in
      let none : member n (filter p (range 0 n)) ≡ false = no_member n (filter p (range 0 n))
      (λ m. let low = (range_mem 0 n (filter_mem p (range 0 n) m)).1 in omega arith) in
      rw same (ap (position n) (filtered_more n ∙ rw holds) ∙ position-behind n (filter p (range 0 n)) [] none))
      (decided (ltb k n))
