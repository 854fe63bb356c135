-- Counts in a list, and sums over the numbers below n.
-- Assumes nothing.
use mathlib.Core.Path.{◌≡◌, refl, sym, ap, ◌∙◌}
use mathlib.Core.Bool.{Bool, true, false, cond, not}
use mathlib.Core.List.{List, [], ◌∷◌, ◌++◌, map, Memᴰ}
use mathlib.Core.Logic.{⊎_elim}
use Prim.Native.Nat.{ℕ, zero, suc, ◌+◌, ◌*◌, ◌<◌, ◌≤◌}
use native.Mathlib.Nat.{not-suc-le-zero}
use native.Mathlib.Numerals.{add-one}
use native.Mathlib.Omega.{arith}
use borrow.Author.Tests.{ltb-true, ltb-false, eqb-true, eqb-false, eq-eqb, ne_eqb, not-true}
use lib.Dec.{eqb, ltb}
use lib.ListN.{length, get_or}
use Rattle.definitions.specs.Lists.{total, filter, member, count, distinct, range, tabulate}
use Rattle.laws.proofs.Lists.{decided, bit, and_left, and_right}
use Rattle.laws.proofs.Ranges.{range_more}

-- ---- count

pub count-length : (x : ℕ) (xs : List ℕ) → count x xs ≤ length xs
unfolding count
count-length x [] = omega arith
count-length x (y ∷ xs) = omega (arith, bit (eqb x y), count-length x xs)

-- ---- total

pub total_more : (f : ℕ → ℕ) (n : ℕ) → total f (n + 1) ≡ total f n + f n
unfolding total
total_more f n = rw add-one

pub total-most : (f : ℕ → ℕ) (n most : ℕ) → ((w : ℕ) → w < n → f w ≤ most) → total f n ≤ most * n
unfolding total
total-most f zero most h = omega arith
total-most f (suc n) most h = omega (arith, total-most f n most (λ w l. h w (omega arith)), h n (omega arith))

-- ---- none, and some

pub count_none : (x : ℕ) (xs : List ℕ) → (Memᴰ x xs → ⊥) → count x xs ≡ 0
unfolding count
count_none x [] h = refl
count_none x (y ∷ xs) h =
    simp (ne_eqb x y (λ e. h (Memᴰ.head e)), count_none x xs (λ m. h (Memᴰ.tail m)))

pub count_some : {x : ℕ} {xs : List ℕ} → Memᴰ x xs → 0 < count x xs
unfolding count
count_some {x} (Memᴰ.head {x = y} e) = simp (eq-eqb x y e) (omega arith)
count_some (Memᴰ.tail m) = omega (arith, count_some m)

-- a map that tells x from the elements keeps its count
pub count_map : (h : ℕ → ℕ) (x : ℕ) (xs : List ℕ) → ((y : ℕ) → Memᴰ y xs → h x ≡ h y → x ≡ y)
    → count (h x) (map h xs) ≡ count x xs
unfolding count
count_map h x [] apart = refl
count_map h x (y ∷ xs) apart =
    let rest : count (h x) (map h xs) ≡ count x xs = count_map h x xs (λ z m. apart z (Memᴰ.tail m)) in
    ⊎_elim
    (λ (t : eqb x y ≡ true). simp (t, eq-eqb (h x) (h y) (ap h (eqb-true x y t)), rest))
    (λ (t : eqb x y ≡ false).
    simp (t, ne_eqb (h x) (h y) (λ e. eqb-false x y t (apart y (Memᴰ.head refl) e)), rest))
    (decided (eqb x y))

pub total_same : (f g : ℕ → ℕ) (n : ℕ) → ((w : ℕ) → w < n → f w ≡ g w) → total f n ≡ total g n
unfolding total
total_same f g zero h = refl
total_same f g (suc n) h = omega (arith, total_same f g n (λ w l. h w (omega arith)), h n (omega arith))

pub total_none : (f : ℕ → ℕ) (n : ℕ) → ((w : ℕ) → w < n → f w ≡ 0) → total f n ≡ 0
unfolding total
total_none f zero h = refl
total_none f (suc n) h = omega (arith, total_none f n (λ w l. h w (omega arith)), h n (omega arith))

pub total_part : (f : ℕ → ℕ) (n w : ℕ) → w < n → f w ≤ total f n
unfolding total
total_part f zero w l = absurd (not-suc-le-zero l)
total_part f (suc n) w l = ⊎_elim
    (λ (t : ltb w n ≡ true). omega (arith, total_part f n w (ltb-true w n t)))
    (λ (t : ltb w n ≡ false). let e : w ≡ n = omega (arith, ltb-false w n t) in rw e (omega arith))
    (decided (ltb w n))

-- where there is nothing from m on
pub total-low : (f : ℕ → ℕ) (n m : ℕ) → m ≤ n → ((w : ℕ) → m ≤ w → f w ≡ 0) → total f n ≡ total f m
unfolding total
total-low f zero m l none = let e : m ≡ 0 = omega arith in rw e
total-low f (suc n) m l none = ⊎_elim
    (λ (t : ltb n m ≡ true). let e : m ≡ suc n = omega (arith, ltb-true n m t) in rw e)
    (λ (t : ltb n m ≡ false).
    let past = ltb-false n m t in
    omega (arith, total-low f n m past none, none n past))
    (decided (ltb n m))

-- the first, and those after it
total_first : (f : ℕ → ℕ) (n : ℕ) → total f (suc n) ≡ f 0 + total (λ k. f (suc k)) n
unfolding total
total_first f zero = omega arith
total_first f (suc n) = omega (arith, total_first f n)

-- ---- a sum over a list of numbers

pub sum_over : (ℕ → ℕ) → List ℕ → ℕ
sum_over f [] = 0
sum_over f (x ∷ xs) = f x + sum_over f xs

pub sum_map : (f h : ℕ → ℕ) (xs : List ℕ) → sum_over f (map h xs) ≡ sum_over (λ i. f (h i)) xs
unfolding sum_over
sum_map f h [] = refl
sum_map f h (x ∷ xs) = omega (arith, sum_map f h xs)

sum_append : (f : ℕ → ℕ) (xs ys : List ℕ) → sum_over f (xs ++ ys) ≡ sum_over f xs + sum_over f ys
unfolding sum_over
sum_append f [] ys = omega arith
sum_append f (x ∷ xs) ys = omega (arith, sum_append f xs ys)

pub sum_filter : (f : ℕ → ℕ) (p : ℕ → Bool) (xs : List ℕ) → sum_over f (filter p xs) ≡ sum_over (λ i. cond (p i) (f i) 0) xs
unfolding sum_over filter
sum_filter f p [] = refl
sum_filter f p (x ∷ xs) = ⊎_elim
    (λ (t : p x ≡ true). simp (t, sum_filter f p xs))
    (λ (t : p x ≡ false). simp (t, sum_filter f p xs) (omega arith))
    (decided (p x))

pub sum_range : (f : ℕ → ℕ) (n : ℕ) → sum_over f (range 0 n) ≡ total f n
unfolding total sum_over
sum_range f zero = unfold range tabulate in refl
sum_range f (suc n) = ap (sum_over f) (range_more n) ∙ sum_append f (range 0 n) (n ∷ []) ∙ omega (arith, sum_range f n)

-- place by place
pub sum_places : (f : ℕ → ℕ) (xs : List ℕ) (d : ℕ) → sum_over f xs ≡ total (λ k. f (get_or xs k d)) (length xs)
unfolding sum_over
sum_places f [] d = unfold total in refl
sum_places f (x ∷ xs) d =
    ap (λ (s : ℕ). f x + s) (sum_places f xs d) ∙ sym (total_first (λ k. f (get_or (x ∷ xs) k d)) (length xs))

-- ---- the numbers of a list, and the others

-- x, and the others
total_split : (f : ℕ → ℕ) (n x : ℕ) → x < n → total f n ≡ f x + total (λ w. cond (eqb w x) 0 (f w)) n
unfolding total
total_split f zero x l = absurd (not-suc-le-zero l)
total_split f (suc n) x l = ⊎_elim
    (λ (t : ltb x n ≡ true).
    let here : cond (eqb n x) 0 (f n) ≡ f n = simp (ne_eqb n x (λ e. omega (arith, e, ltb-true x n t))) in
    omega (arith, total_split f n x (ltb-true x n t), here))
    (λ (t : ltb x n ≡ false).
    let e : n ≡ x = omega (arith, ltb-false x n t) in
    let here : cond (eqb n x) 0 (f n) ≡ 0 = simp (eq-eqb n x e) in
    let below : total f n ≡ total (λ w. cond (eqb w x) 0 (f w)) n =
    total_same f (λ w. cond (eqb w x) 0 (f w)) n (λ w k. sym (simp (ne_eqb w x (λ q. omega (arith, q, k, e))))) in
    omega (arith, here, below, ap f e))
    (decided (ltb x n))

pub total_parts : (f : ℕ → ℕ) (n : ℕ) (ws : List ℕ) → distinct ws ≡ true → ((w : ℕ) → Memᴰ w ws → w < n)
    → total f n ≡ sum_over f ws + total (λ w. cond (member w ws) 0 (f w)) n
unfolding sum_over member distinct
total_parts f n [] d h = omega arith
total_parts f n (x ∷ ws) d h =
    let rest : ℕ → ℕ = λ w. cond (member w ws) 0 (f w) in
    let new : member x ws ≡ false = not-true (member x ws) (and_left (not (member x ws)) (distinct ws) d) in
    let here : rest x ≡ f x = simp new in
    let others : total (λ w. cond (eqb w x) 0 (rest w)) n ≡ total (λ w. cond (member w (x ∷ ws)) 0 (f w)) n =
    total_same (λ w. cond (eqb w x) 0 (rest w)) (λ w. cond (member w (x ∷ ws)) 0 (f w)) n
    (λ w l. ⊎_elim (λ (t : eqb w x ≡ true). simp t) (λ (t : eqb w x ≡ false). simp t) (decided (eqb w x))) in
    omega (
      arith,
      total_parts f n ws (and_right (not (member x ws)) (distinct ws) d) (λ w m. h w (Memᴰ.tail m)),
      total_split rest n x (h x (Memᴰ.head refl)),
      here,
      others,
    )

-- so there are no more than n distinct numbers below n
pub distinct_few : (n : ℕ) (ws : List ℕ) → distinct ws ≡ true → ((w : ℕ) → Memᴰ w ws → w < n) → length ws ≤ n
unfolding sum_over
distinct_few n ws d h =
    omega (
      arith,
      total_parts (λ w. 1) n ws d h,
      ones ws,
      total-most (λ w. 1) n 1 (λ w l. omega arith),
    )
  where
    ones : (xs : List ℕ) → sum_over (λ w. 1) xs ≡ length xs
    ones [] = refl
    ones (x ∷ xs) = omega (arith, ones xs)
