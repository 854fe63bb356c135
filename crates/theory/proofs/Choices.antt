-- The order of choices, a search for the first success in a list, and the list of all choices.
-- Assumes nothing.
use mathlib.Core.Path.{◌≡◌, refl, sym, ap, ◌∙◌, subst}
use mathlib.Core.Bool.{true, false}
use mathlib.Core.List.{List, [], ◌∷◌, ◌++◌, map, Memᴰ}
use mathlib.Core.Logic.{◌⊎◌, inl, inr, ⊎_elim}
use mathlib.Core.Option.{Option, none, some, none-ne-some}
use Prim.Native.Nat.{ℕ, zero, suc, ◌+◌, ◌-◌, ◌<◌, ◌≤◌}
use native.Mathlib.Nat.{not-suc-le-zero, le_of_suc-le-suc}
use native.Mathlib.Omega.{arith}
use borrow.Author.Tests.{ltb-true, ltb-false, eqb-true, eqb-false}
use lib.Dec.{eqb, ltb}
use lib.ListN.{length, get_or, take, drop, length-append, length-map, length-drop, drop_of_length-le, get_or-append}
use lib.Seq.{length-take-le, get_or-take, get_or-drop, get_or-append-add, drop-cons}
use Rattle.definitions.specs.Lists.{tabulate, concat_map, first_some, member, position, range}
use Rattle.definitions.specs.Graph.{unused_place}
use Rattle.definitions.specs.Match.{NotAfter, choices_of, choices}
use Rattle.laws.proofs.Lists.{decided, map_at}
use Rattle.laws.proofs.Members.{mem_member, mem-at, position-image, position_at, position_least, mem_range, range_mem, tabulate_mem, mem_concat, concat_mem}

pub not_after_self : (xs : List ℕ) → NotAfter xs xs
not_after_self [] = tt
not_after_self (x ∷ xs) = inr (refl, not_after_self xs)

-- of two lists, neither is after the other only where they are equal
pub not_after_both : (xs ys : List ℕ) → NotAfter xs ys → NotAfter ys xs → xs ≡ ys
not_after_both [] [] p q = refl
not_after_both [] (y ∷ ys) p q = absurd q
not_after_both (x ∷ xs) [] p q = absurd p
not_after_both (x ∷ xs) (y ∷ ys) (inl p) (inl q) = absurd (omega arith)
not_after_both (x ∷ xs) (y ∷ ys) (inl p) (inr q) = absurd (omega (arith, q.0))
not_after_both (x ∷ xs) (y ∷ ys) (inr p) (inl q) = absurd (omega (arith, p.0))
not_after_both (x ∷ xs) (y ∷ ys) (inr p) (inr q) = rw (p.0, not_after_both xs ys p.1 q.1)

-- where the two agree before place j, the first is not the greater at j
not_after-at : (xs ys : List ℕ) (j d : ℕ) → NotAfter xs ys → ((i : ℕ) → i < j → get_or xs i d ≡ get_or ys i d) → j < length xs
    → get_or ys j d < get_or xs j d → ⊥
not_after-at [] ys j d h same l g = not-suc-le-zero l
not_after-at (x ∷ xs) [] j d h same l g = h
not_after-at (x ∷ xs) (y ∷ ys) zero d (inl h) same l g = omega arith
not_after-at (x ∷ xs) (y ∷ ys) zero d (inr h) same l g = omega (arith, h.0)
not_after-at (x ∷ xs) (y ∷ ys) (suc j) d (inl h) same l g = omega (arith, same 0 (omega arith))
not_after-at (x ∷ xs) (y ∷ ys) (suc j) d (inr h) same l g =
    not_after-at xs ys j d h.1 (λ i b. same (suc i) (omega arith)) (le_of_suc-le-suc l) g

-- ---- sorted lists

module _ {A : Type 0} (R : A → A → Type 0) where
  -- every element stands in R to all later ones
  abbrev pub Sorted : List A → Type 0
  Sorted [] = Unit {0}
  Sorted (x ∷ xs) = ((y : A) → Memᴰ y xs → R x y) × Sorted xs

  sorted-append : (xs ys : List A) → Sorted xs → Sorted ys
      → ((x y : A) → Memᴰ x xs → Memᴰ y ys → R x y) → Sorted (xs ++ ys)
  sorted-append [] ys s t between = t
  sorted-append (x ∷ xs) ys s t between = (
    λ y m. ⊎_elim (λ (k : Memᴰ y xs). s.0 y k) (λ (k : Memᴰ y ys). between x y (mathlib.Core.List.Memᴰ.head refl) k)
        (mathlib.Core.List.Memᴰ.append_cases xs m),
    sorted-append xs ys s.1 t (λ u v k l. between u v (mathlib.Core.List.Memᴰ.tail k) l),
  )

sorted-tabulate : (n : ℕ) (f : ℕ → ℕ) → ((i j : ℕ) → i < j → f i < f j) → Sorted ◌<◌ (tabulate n f)
unfolding tabulate
sorted-tabulate zero f up = tt
sorted-tabulate (suc n) f up = (
  λ y m. let p = tabulate_mem n (λ k. f (suc k)) m in rw p.2 (up 0 (suc p.0) (omega arith)),
  sorted-tabulate n (λ k. f (suc k)) (λ i j l. up (suc i) (suc j) (omega arith)),
)

sorted-range : (from to : ℕ) → Sorted ◌<◌ (range from to)
unfolding range
sorted-range from to = sorted-tabulate (to - from) (λ i. from + i) (λ i j l. omega arith)

-- ---- the first success

module _ {A B : Type 0} (f : A → Option B) where
  pub first_none : (x : A) (xs : List A) → f x ≡ none → first_some f (x ∷ xs) ≡ first_some f xs
  unfolding first_some
  first_none x xs e = rw (e, first_some)

  pub first_some_lem : (x : A) (xs : List A) {b : B} → f x ≡ some b → first_some f (x ∷ xs) ≡ some b
  unfolding first_some
  first_some_lem x xs e = rw (e, first_some)

  given : (o : Option B) → (Path (Option B) o none) ⊎ ((b : B) × Path (Option B) o (some b))
  given none = inl refl
  given (some b) = inr (b, refl)

  -- where some element succeeds, the search finds a first one
  pub first_found : (xs : List A) (z : A) (w : B) → Memᴰ z xs → f z ≡ some w → (b : B) × (first_some f xs ≡ some b)
  first_found [] z w m e = absurd (mathlib.Core.List.Memᴰ.not-nil m)
  first_found (x ∷ xs) z w m e =
      ⊎_elim (λ (n : f x ≡ none).
      ⊎_elim (λ (same : z ≡ x). absurd (none-ne-some w (sym n ∙ ap f (sym same) ∙ e)))
      (λ (k : Memᴰ z xs). let r = first_found xs z w k e in (r.0, first_none x xs n ∙ r.1))
      (mathlib.Core.List.Memᴰ.cases_cons m))
      (λ (s : (b : B) × (f x ≡ some b)). (s.0, first_some_lem x xs s.1))
      (given (f x))

  -- what the search gives comes from an element, and where the list is sorted, that one is not after another that succeeds
  pub first_least : (R : A → A → Type 0) → ((x : A) → R x x) → (xs : List A) (b : B) → Sorted R xs → first_some f xs ≡ some b
      → (x : A) × Memᴰ x xs × (f x ≡ some b) × ((z : A) (w : B) → Memᴰ z xs → f z ≡ some w → R x z)
  first_least R self [] b sorted e = absurd (unfold first_some in none-ne-some b e)
  first_least R self (x ∷ xs) b sorted e =
      ⊎_elim (λ (n : f x ≡ none).
      let r = first_least R self xs b sorted.1 (sym (first_none x xs n) ∙ e) in (
        r.0,
        mathlib.Core.List.Memᴰ.tail r.1,
        r.2,
        λ z w m t. ⊎_elim (λ (same : z ≡ x). absurd (none-ne-some w (sym n ∙ ap f (sym same) ∙ t)))
            (λ (k : Memᴰ z xs). r.3 z w k t) (mathlib.Core.List.Memᴰ.cases_cons m),
      ))
      (λ (s : (y : B) × (f x ≡ some y)). (
        x,
        mathlib.Core.List.Memᴰ.head refl,
        s.1 ∙ sym (first_some_lem x xs s.1) ∙ e,
        λ z w m t. ⊎_elim (λ (same : z ≡ x). subst (λ (y : A). R x y) (sym same) (self x)) (λ (k : Memᴰ z xs). sorted.0 z k)
            (mathlib.Core.List.Memᴰ.cases_cons m),
      ))
      (given (f x))

-- ---- all choices

-- the lists of cs, each after the same first number
abbrev behind : List (List ℕ) → ℕ → List (List ℕ)
behind cs image = map (λ rest. image ∷ rest) cs

sorted-behind : (cs : List (List ℕ)) (image : ℕ) → Sorted NotAfter cs → Sorted NotAfter (behind cs image)
sorted-behind [] image s = tt
sorted-behind (c ∷ cs) image s = (
  λ y m. let p = mathlib.Core.List.Memᴰ.of_map (λ rest. image ∷ rest) cs m in subst (NotAfter (image ∷ c)) p.2 (inr (refl, s.0 p.0 p.1)),
  sorted-behind cs image s.1,
)

sorted-concat : (cs : List (List ℕ)) (xs : List ℕ) → Sorted NotAfter cs → Sorted ◌<◌ xs → Sorted NotAfter (concat_map (behind cs) xs)
unfolding concat_map
sorted-concat cs [] s t = tt
sorted-concat cs (x ∷ xs) s t = sorted-append NotAfter (behind cs x) (concat_map (behind cs) xs) (sorted-behind cs x s)
    (sorted-concat cs xs s t.1)
    (λ y z m k.
    let p = mathlib.Core.List.Memᴰ.of_map (λ rest. x ∷ rest) cs m in
    let q = concat_mem (behind cs) xs k in
    let u = mathlib.Core.List.Memᴰ.of_map (λ rest. q.0 ∷ rest) cs q.2 in
    subst (λ (l : List ℕ). NotAfter l z) p.2 (subst (NotAfter (x ∷ p.0)) u.2 (inl (t.0 q.0 q.1))))

sorted-choices_of : (n k : ℕ) → Sorted NotAfter (choices_of n k)
unfolding choices_of
sorted-choices_of n zero = (λ y m. absurd (mathlib.Core.List.Memᴰ.not-nil m), tt)
sorted-choices_of n (suc k) = sorted-concat (choices_of n k) (range 0 n) (sorted-choices_of n k) (sorted-range 0 n)

-- the choices are tried in their order
pub sorted-choices : (n k s : ℕ) → Sorted NotAfter (choices n k s)
unfolding choices
sorted-choices n k s = sorted-concat (choices_of n (k - 1)) (range s n) (sorted-choices_of n (k - 1)) (sorted-range s n)

-- k numbers below n
pub record Numbers (n k : ℕ) (c : List ℕ) : Type 0 where
  pub size : length c ≡ k
  pub inside : (i : ℕ) → i < k → get_or c i unused_place < n

mem_behind : (cs : List (List ℕ)) (xs : List ℕ) {x : ℕ} {c : List ℕ} → Memᴰ x xs → Memᴰ c cs
    → Memᴰ (x ∷ c) (concat_map (behind cs) xs)
mem_behind cs xs {x} m k = mem_concat (behind cs) m (mathlib.Core.List.Memᴰ.map (λ rest. x ∷ rest) k)

behind_mem : (cs : List (List ℕ)) (xs c : List ℕ) → Memᴰ c (concat_map (behind cs) xs)
    → (x : ℕ) × (rest : List ℕ) × Memᴰ x xs × Memᴰ rest cs × (x ∷ rest ≡ c)
behind_mem cs xs c m =
    let p = concat_mem (behind cs) xs m in
    let q = mathlib.Core.List.Memᴰ.of_map (λ rest. p.0 ∷ rest) cs p.2 in
    (p.0, q.0, p.1, q.1, q.2)

numbers_more : (n k x : ℕ) (c : List ℕ) → x < n → Numbers n k c → Numbers n (suc k) (x ∷ c)
numbers_more n k x c l s = record { size = ap suc s.size; inside = places }
  where
    places : (i : ℕ) → i < suc k → get_or (x ∷ c) i unused_place < n
    places zero b = l
    places (suc i) b = s.inside i (le_of_suc-le-suc b)

numbers-rest : (n k x : ℕ) (c : List ℕ) → Numbers n (suc k) (x ∷ c) → Numbers n k c
numbers-rest n k x c s = record { size = omega (arith, s.size); inside = λ i b. s.inside (suc i) (omega arith) }

mem_choices_of : (n k : ℕ) (c : List ℕ) → Numbers n k c → Memᴰ c (choices_of n k)
unfolding choices_of
mem_choices_of n zero [] s = mathlib.Core.List.Memᴰ.head refl
mem_choices_of n zero (x ∷ c) s = absurd (omega (arith, s.size))
mem_choices_of n (suc k) [] s = absurd (omega (arith, s.size))
mem_choices_of n (suc k) (x ∷ c) s =
    mem_behind (choices_of n k) (range 0 n) (mem_range 0 n x (omega arith) (s.inside 0 (omega arith)))
    (mem_choices_of n k c (numbers-rest n k x c s))

choices_of_mem : (n k : ℕ) (c : List ℕ) → Memᴰ c (choices_of n k) → Numbers n k c
unfolding choices_of
choices_of_mem n zero c m =
    subst (Numbers n 0) (sym (mathlib.Core.List.Memᴰ.eq_of_singleton m)) (record { size = refl; inside = λ i b. absurd (not-suc-le-zero b) })
choices_of_mem n (suc k) c m =
    let p = behind_mem (choices_of n k) (range 0 n) c m in
    subst (Numbers n (suc k)) p.4
    (numbers_more n k p.0 p.1 (range_mem 0 n p.2).1 (choices_of_mem n k p.1 p.3))

module _ (n k s : ℕ) (some : 0 < k) where
  -- every k numbers below n, of which the first is at least s, are a choice
  pub mem_choices : (c : List ℕ) → Numbers n k c → s ≤ get_or c 0 unused_place → Memᴰ c (choices n k s)
  unfolding choices
  mem_choices [] numbers first = absurd (omega (arith, numbers.size))
  mem_choices (x ∷ c) numbers first =
      let more : k ≡ suc (k - 1) = omega arith in
      mem_behind (choices_of n (k - 1)) (range s n) (mem_range s n x first (numbers.inside 0 some))
      (mem_choices_of n (k - 1) c (numbers-rest n (k - 1) x c (subst (λ (i : ℕ). Numbers n i (x ∷ c)) more numbers)))

  -- and a choice is such numbers
  pub choices_mem : (c : List ℕ) → Memᴰ c (choices n k s) → Numbers n k c × (s ≤ get_or c 0 unused_place)
  unfolding choices
  choices_mem c m =
      let more : suc (k - 1) ≡ k = omega arith in
      let p = behind_mem (choices_of n (k - 1)) (range s n) c m in
      let b = range_mem s n p.2 in
      subst (λ (l : List ℕ). Numbers n k l × (s ≤ get_or l 0 unused_place)) p.4 (
        subst (λ (i : ℕ). Numbers n i (p.0 ∷ p.1)) more
            (numbers_more n (k - 1) p.0 p.1 b.1 (choices_of_mem n (k - 1) p.1 p.3)),
        b.0,
      )

-- ---- a choice that begins like one, and goes on like another

module _ (a b : List ℕ) (j d : ℕ) (fits : j ≤ length a) where
  mixed_left : (i : ℕ) → i < j → get_or (take j a ++ drop j b) i d ≡ get_or a i d
  mixed_left i l =
      get_or-append (take j a) (drop j b) d i (omega (arith, length-take-le j a fits)) ∙ get_or-take j a i d l

  mixed_right : (i : ℕ) → j ≤ i → get_or (take j a ++ drop j b) i d ≡ get_or b i d
  mixed_right i l =
      let place : length (take j a) + (i - j) ≡ i = omega (arith, length-take-le j a fits) in
      let same : j + (i - j) ≡ i = omega arith in
      ap (λ (k : ℕ). get_or (take j a ++ drop j b) k d) (sym place) ∙ get_or-append-add (take j a) (drop j b) (i - j) d
      ∙ get_or-drop j b (i - j) d ∙ ap (λ (k : ℕ). get_or b k d) same

  mixed_length : length a ≡ length b → length (take j a ++ drop j b) ≡ length b
  mixed_length e = simp length-append (omega (arith, length-take-le j a fits, length-drop j b))

pub numbers_mixed : (n k : ℕ) (a b : List ℕ) (j : ℕ) → j ≤ k → Numbers n k a → Numbers n k b → Numbers n k (take j a ++ drop j b)
numbers_mixed n k a b j l p q =
    let fits : j ≤ length a = omega (arith, p.size) in
    record {
      size = mixed_length a b j unused_place fits (p.size ∙ sym q.size) ∙ q.size;
      inside = λ i h. ⊎_elim (λ (t : ltb i j ≡ true). rw (mixed_left a b j unused_place fits i (ltb-true i j t)) (p.inside i h))
          (λ (t : ltb i j ≡ false). rw (mixed_right a b j unused_place fits i (ltb-false i j t)) (q.inside i h))
          (decided (ltb i j));
    }

pub first_mixed : (s : ℕ) (a b : List ℕ) (j : ℕ) → j ≤ length a → s ≤ get_or a 0 unused_place → s ≤ get_or b 0 unused_place
    → s ≤ get_or (take j a ++ drop j b) 0 unused_place
first_mixed s a b zero fits h k = k
first_mixed s a b (suc j) fits h k = rw (mixed_left a b (suc j) unused_place fits 0 (omega arith)) h

-- Choice c holds f of each of os at the first place of that one; what it holds at other places does not matter. If it is not after
-- those mixes of itself and g's values that hold g in that way, then f's values are not after g's.
module _ (os : List ℕ) (f g : ℕ → ℕ) (c : List ℕ) (d : ℕ) (size : length c ≡ length os)
    (agree : (o : ℕ) → member o os ≡ true → get_or c (position o os) d ≡ f o)
    (least : (j : ℕ) → j < length os
    → ((o : ℕ) → member o os ≡ true → get_or (take j c ++ drop j (map g os)) (position o os) d ≡ g o)
    → NotAfter c (take j c ++ drop j (map g os))) where
  abbrev SameBefore : ℕ → Type 0
  SameBefore j = (i : ℕ) → i < j → f (get_or os i d) ≡ g (get_or os i d)

  -- an element whose first place is before j
  same_first : (j o : ℕ) → SameBefore j → member o os ≡ true → position o os < j → f o ≡ g o
  same_first j o same m l =
      let at : get_or os (position o os) d ≡ o = position_at o os d m in
      ap f (sym at) ∙ same (position o os) l ∙ ap g at

  mix_holds : (j : ℕ) → j < length os → SameBefore j
      → (o : ℕ) → member o os ≡ true → get_or (take j c ++ drop j (map g os)) (position o os) d ≡ g o
  mix_holds j l same o m =
      ⊎_elim (λ (t : ltb (position o os) j ≡ true).
      let before : position o os < j = ltb-true (position o os) j t in
      mixed_left c (map g os) j d (omega arith) (position o os) before ∙ agree o m ∙ same_first j o same m before)
      (λ (t : ltb (position o os) j ≡ false).
      mixed_right c (map g os) j d (omega arith) (position o os) (ltb-false (position o os) j t) ∙ position-image g d o os m)
      (decided (ltb (position o os) j))

  -- the first place that differs
  not_greater : (j : ℕ) → j < length os → SameBefore j → g (get_or os j d) < f (get_or os j d) → ⊥
  not_greater j l same greater =
      let o : ℕ = get_or os j d in
      let m : member o os ≡ true = mem_member (mem-at os j d l) in
      let early : position o os ≤ j = position_least os j d l in
      ⊎_elim (λ (t : ltb (position o os) j ≡ true). omega (arith, same_first j o same m (ltb-true (position o os) j t)))
      (λ (t : ltb (position o os) j ≡ false).
      let first : position o os ≡ j = omega (arith, ltb-false (position o os) j t) in
      let mine : get_or c j d ≡ f o = ap (λ (i : ℕ). get_or c i d) (sym first) ∙ agree o m in
      let other : get_or (take j c ++ drop j (map g os)) j d ≡ g o =
      mixed_right c (map g os) j d (omega arith) j (omega arith) ∙ map_at g os j d d l in
      not_after-at c (take j c ++ drop j (map g os)) j d (least j l (mix_holds j l same))
      (λ i b. sym (mixed_left c (map g os) j d (omega arith) i b)) (omega arith) (omega arith))
      (decided (ltb (position o os) j))

  -- the last k of os, from place j on
  not_after-from : (k j : ℕ) → j + k ≡ length os → SameBefore j → NotAfter (drop j (map f os)) (drop j (map g os))
  not_after-from zero j e same = rw (drop_of_length-le (map f os) {i = j} (omega (arith, length-map os f))) tt
  not_after-from (suc k) j e same =
      rw (
        drop-cons (map f os) j d (omega (arith, length-map os f)),
        drop-cons (map g os) j d (omega (arith, length-map os g)),
        map_at f os j d d (omega arith),
        map_at g os j d d (omega arith),
      )
      (⊎_elim (λ (t : ltb x y ≡ true). inl (ltb-true x y t))
      (λ (t : ltb x y ≡ false). ⊎_elim
      (λ (s : eqb x y ≡ true). inr (eqb-true x y s, not_after-from k (suc j) (omega arith) (more (eqb-true x y s))))
      (λ (s : eqb x y ≡ false).
      let other : x ≡ y → ⊥ = eqb-false x y s in
      absurd (not_greater j (omega arith) same (omega (arith, ltb-false x y t))))
      (decided (eqb x y)))
      (decided (ltb x y)))
    where
      x : ℕ
      x = f (get_or os j d)

      y : ℕ
      y = g (get_or os j d)

      more : x ≡ y → SameBefore (suc j)
      more s i l = ⊎_elim (λ (t : ltb i j ≡ true). same i (ltb-true i j t))
          (λ (t : ltb i j ≡ false). let here : i ≡ j = omega (arith, ltb-false i j t) in rw here s)
          (decided (ltb i j))

  pub least_values : NotAfter (map f os) (map g os)
  least_values = not_after-from (length os) 0 (omega arith) (λ i l. absurd (not-suc-le-zero l))
