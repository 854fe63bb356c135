-- Laws about the words of `Lists`: what a loop over an index, or a reader of a decoded list, needs to know.
-- Assumes nothing.
use mathlib.Core.Path.{◌≡◌, refl, sym, ap, ap₂, ◌∙◌}
use mathlib.Core.Bool.{Bool, true, false, cond, ◌&&◌, ◌||◌, and-false, or-true, or-false, false≢true}
use mathlib.Core.List.{List, [], ◌∷◌, map, Memᴰ}
use mathlib.Core.Logic.{◌⊎◌, inl, inr, ⊎_elim}
use mathlib.Core.Option.{Option, none, some}
use Prim.Native.Nat.{ℕ, zero, suc, ◌+◌, ◌<◌, ◌≤◌}
use native.Mathlib.Nat.{not-suc-le-zero, le_of_suc-le-suc}
use native.Mathlib.Numerals.{add-one}
use native.Mathlib.Omega.{arith}
use borrow.Author.Tests.{le-ltb, ltb-true, ltb-false}
use lib.Dec.{ltb}
use lib.ListN.{length, get_or}
use Rattle.definitions.specs.Lists.{all_below, any_below, lowest, tabulate, all, any}

-- a Bool is true or false
pub decided : (b : Bool) → (b ≡ true) ⊎ (b ≡ false)
decided true = inl refl
decided false = inr refl

pub true_not_false : {b : Bool} → b ≡ true → b ≡ false → ⊥
true_not_false {b} t f = false≢true (sym f ∙ t)

-- a test that cannot hold fails
pub fails : {b : Bool} → (b ≡ true → ⊥) → b ≡ false
fails {b} h = ⊎_elim (λ (t : b ≡ true). absurd (h t)) (λ (t : b ≡ false). t) (decided b)

-- a test that cannot fail holds
pub passes : {b : Bool} → (b ≡ false → ⊥) → b ≡ true
passes {b} h = ⊎_elim (λ (t : b ≡ true). t) (λ (t : b ≡ false). absurd (h t)) (decided b)

-- an option is none, or it is some value
pub option_either : {A : Type 0} (o : Option A) → (o ≡ none) ⊎ ((a : A) × (o ≡ some a))
option_either none = inl refl
option_either (some a) = inr (a, refl)

-- a test counts for one at most
pub bit : (b : Bool) → cond b 1 0 ≤ 1
bit true = omega arith
bit false = omega arith

-- ---- a conjunction holds where both parts do

pub and_left : (a b : Bool) → (a && b) ≡ true → a ≡ true
and_left true b h = refl
and_left false b h = h

pub and_right : (a b : Bool) → (a && b) ≡ true → b ≡ true
and_right true b h = h
and_right false b h = absurd (false≢true h)

-- a part without which the whole fails
pub needed : (b : Bool) {h : Bool} → h ≡ true → (b ≡ false → h ≡ false) → b ≡ true
needed b t f =
    ⊎_elim (λ (e : b ≡ true). e) (λ (e : b ≡ false). absurd (true_not_false t (f e))) (decided b)

-- ---- all_below

module _ (p : ℕ → Bool) where
  -- one more turn of a loop that counts up
  pub all_below_more : (n : ℕ) → all_below p (n + 1) ≡ (all_below p n && p n)
  unfolding all_below
  all_below_more n = rw add-one

  pub all_below_step : (n : ℕ) → all_below p n ≡ true → p n ≡ true → all_below p (n + 1) ≡ true
  all_below_step n h t = all_below_more n ∙ simp (h, t)

  -- a failure below n
  pub all_below_fails : (n k : ℕ) → k < n → p k ≡ false → all_below p n ≡ false
  unfolding all_below
  all_below_fails zero k h f = absurd (not-suc-le-zero h)
  all_below_fails (suc n) k h f =
      ⊎_elim (λ (t : ltb k n ≡ true). ap (λ (b : Bool). b && p n) (all_below_fails n k (ltb-true k n t) f))
      (λ (t : ltb k n ≡ false). let e : n ≡ k = omega (arith, ltb-false k n t) in simp (e, f, and-false))
      (decided (ltb k n))

  pub all_below_at : (n k : ℕ) → all_below p n ≡ true → k < n → p k ≡ true
  all_below_at n k h l = needed (p k) h (all_below_fails n k l)

  pub all_below_every : (n : ℕ) → ((k : ℕ) → k < n → p k ≡ true) → all_below p n ≡ true
  unfolding all_below
  all_below_every zero h = refl
  all_below_every (suc n) h =
      let below : (k : ℕ) → k < n → p k ≡ true = λ k l. h k (omega arith) in
      let last : p n ≡ true = h n (omega arith) in
      simp (all_below_every n below, last)

-- ---- any_below

module _ (p : ℕ → Bool) where
  pub any_below-step : (n : ℕ) → any_below p n ≡ false → p n ≡ false → any_below p (n + 1) ≡ false
  unfolding any_below
  any_below-step n h t = rw add-one (simp (h, t))

  pub any_below-found : (n k : ℕ) → k < n → p k ≡ true → any_below p n ≡ true
  unfolding any_below
  any_below-found zero k l t = absurd (not-suc-le-zero l)
  any_below-found (suc n) k l t =
      ⊎_elim (λ (s : ltb k n ≡ true). ap (λ (b : Bool). b || p n) (any_below-found n k (ltb-true k n s) t))
      (λ (s : ltb k n ≡ false). let e : n ≡ k = omega (arith, ltb-false k n s) in simp (e, t, or-true))
      (decided (ltb k n))

-- ---- lowest

module _ (p : ℕ → Bool) where
  pub lowest_none : (n : ℕ) → ((k : ℕ) → k < n → p k ≡ false) → lowest p n ≡ n
  unfolding lowest
  lowest_none zero h = refl
  lowest_none (suc n) h =
      let below : (k : ℕ) → k < n → p k ≡ false = λ k l. h k (omega arith) in
      let last : p n ≡ false = h n (omega arith) in
      let here : ltb n n ≡ false = le-ltb n n (omega arith) in
      simp (lowest_none n below, here, last)

  pub lowest-whole : (n : ℕ) → ((k : ℕ) → k < n → p k ≡ false) → n ≤ lowest p n
  lowest-whole n h = omega (arith, lowest_none n h)

  pub lowest-found : (n i : ℕ) → i < n → ((k : ℕ) → k < i → p k ≡ false) → p i ≡ true → lowest p n ≡ i
  unfolding lowest
  lowest-found zero i l h t = absurd (not-suc-le-zero l)
  lowest-found (suc n) i l h t =
      ⊎_elim (λ (e : ltb i n ≡ true). simp (lowest-found n i (ltb-true i n e) h t, e))
      (λ (e : ltb i n ≡ false).
      let same : n ≡ i = omega (arith, ltb-false i n e) in
      let none : lowest p i ≡ i = lowest_none i h in
      let here : ltb i i ≡ false = le-ltb i i (omega arith) in
      simp (same, none, here, t))
      (decided (ltb i n))

  -- what a search passed
  pub lowest-holds : (n : ℕ) → lowest p n < n → p (lowest p n) ≡ true
  unfolding lowest
  lowest-holds zero l = absurd (not-suc-le-zero l)
  lowest-holds (suc n) l = ⊎_elim
      (λ (t : ltb (lowest p n) n ≡ true). simp t (lowest-holds n (ltb-true (lowest p n) n t)))
      (λ (t : ltb (lowest p n) n ≡ false). ⊎_elim
      (λ (s : p n ≡ true). simp (t, s))
      (λ (s : p n ≡ false). let z : suc n < suc n = simp (t, s) at l in absurd (omega arith))
      (decided (p n)))
      (decided (ltb (lowest p n) n))

  pub lowest_passed : (n k : ℕ) → k < lowest p n → p k ≡ false
  unfolding lowest
  lowest_passed zero k h = absurd (not-suc-le-zero h)
  lowest_passed (suc n) k h =
      ⊎_elim (λ (t : ltb (lowest p n) n ≡ true). lowest_passed n k (simp t at h))
      (λ (t : ltb (lowest p n) n ≡ false).
      ⊎_elim (λ (q : p n ≡ true).
      let l : k < n = simp (t, q) at h in
      lowest_passed n k (omega (arith, ltb-false (lowest p n) n t)))
      (λ (q : p n ≡ false).
      let l : k < suc n = simp (t, q) at h in
      ⊎_elim (λ (e : ltb k n ≡ true). lowest_passed n k (omega (arith, ltb-true k n e, ltb-false (lowest p n) n t)))
      (λ (e : ltb k n ≡ false). let same : k ≡ n = omega (arith, ltb-false k n e) in rw same q)
      (decided (ltb k n)))
      (decided (p n)))
      (decided (ltb (lowest p n) n))

-- ---- tabulate

module _ {ℓ} {A : Type ℓ} where
  pub length-tabulate : (n : ℕ) (f : ℕ → A) → length (tabulate n f) ≡ n
  unfolding tabulate
  length-tabulate zero f = refl
  length-tabulate (suc n) f = ap suc (length-tabulate n (λ k. f (suc k)))

  pub get_or_tabulate : (n : ℕ) (f : ℕ → A) (i : ℕ) (d : A) → i < n → get_or (tabulate n f) i d ≡ f i
  unfolding tabulate
  get_or_tabulate zero f i d h = absurd (not-suc-le-zero h)
  get_or_tabulate (suc n) f zero d h = refl
  get_or_tabulate (suc n) f (suc i) d h = get_or_tabulate n (λ k. f (suc k)) i d (le_of_suc-le-suc h)

-- ---- all, by index

module _ {ℓ} {A : Type ℓ} (p : A → Bool) (d : A) where
  pub all_every : (xs : List A) → ((i : ℕ) → i < length xs → p (get_or xs i d) ≡ true) → all p xs ≡ true
  unfolding all
  all_every [] h = refl
  all_every (x ∷ xs) h =
      let rest : (i : ℕ) → i < length xs → p (get_or xs i d) ≡ true = λ i l. h (suc i) (omega arith) in
      simp (h 0 (omega arith), all_every xs rest)

  pub all_fails : (xs : List A) (i : ℕ) → i < length xs → p (get_or xs i d) ≡ false → all p xs ≡ false
  unfolding all
  all_fails [] i l f = absurd (not-suc-le-zero l)
  all_fails (x ∷ xs) zero l f = simp f
  all_fails (x ∷ xs) (suc i) l f = simp (all_fails xs i (le_of_suc-le-suc l) f, and-false)

  pub all-at : (xs : List A) (i : ℕ) → all p xs ≡ true → i < length xs → p (get_or xs i d) ≡ true
  all-at xs i h l = needed (p (get_or xs i d)) h (all_fails xs i l)

-- ---- all, by member

module _ {ℓ} {A : Type ℓ} (p : A → Bool) where
  pub all-member : {x : A} {xs : List A} → all p xs ≡ true → Memᴰ x xs → p x ≡ true
  unfolding all
  all-member h (Memᴰ.head {x = y} {xs = ys} e) = ap p e ∙ and_left (p y) (all p ys) h
  all-member h (Memᴰ.tail {x = y} {xs = ys} m) = all-member (and_right (p y) (all p ys) h) m

  -- it fails of some member
  pub all_some : (xs : List A) → all p xs ≡ false → (x : A) × Memᴰ x xs × (p x ≡ false)
  unfolding all
  all_some [] h = absurd (true_not_false refl h)
  all_some (x ∷ xs) h = ⊎_elim
      (λ (t : p x ≡ true). let s = all_some xs (simp t at h) in (s.0, Memᴰ.tail s.1, s.2))
      (λ (t : p x ≡ false). (x, Memᴰ.head refl, t))
      (decided (p x))

  pub all_members : (xs : List A) → ((x : A) → Memᴰ x xs → p x ≡ true) → all p xs ≡ true
  unfolding all
  all_members [] h = refl
  all_members (x ∷ xs) h = simp (h x (Memᴰ.head refl), all_members xs (λ y m. h y (Memᴰ.tail m)))

-- ---- any, by member

pub any-member : {A : Type 0} (p : A → Bool) {x : A} {xs : List A} → Memᴰ x xs → p x ≡ true → any p xs ≡ true
unfolding any
any-member p (Memᴰ.head {x = y} {xs = ys} e) t = let here : p y ≡ true = sym (ap p e) ∙ t in simp here
any-member p (Memᴰ.tail {x = y} {xs = ys} m) t = simp (any-member p m t, or-true)

-- an index of which the test holds
pub any_below_some : (p : ℕ → Bool) (n : ℕ) → any_below p n ≡ true → (k : ℕ) × (k < n) × (p k ≡ true)
unfolding any_below
any_below_some p zero h = absurd (false≢true h)
any_below_some p (suc n) h =
    ⊎_elim (λ (t : p n ≡ true). (n, omega arith, t))
    (λ (t : p n ≡ false).
    let below : any_below p n ≡ true = simp (t, or-false) at h in
    let found = any_below_some p n below in
    (found.0, omega (arith, found.1), found.2))
    (decided (p n))

-- and one of which it fails, where it does not hold of all
pub all_below_some : (p : ℕ → Bool) (n : ℕ) → (all_below p n ≡ true → ⊥) → (k : ℕ) × (k < n) × (p k ≡ false)
unfolding all_below
all_below_some p zero h = absurd (h refl)
all_below_some p (suc n) h =
    ⊎_elim (λ (t : p n ≡ true).
    let found = all_below_some p n (λ e. h (simp (e, t))) in
    (found.0, omega (arith, found.1), found.2))
    (λ (t : p n ≡ false). (n, omega arith, t))
    (decided (p n))

-- ---- elements

-- what stands for an element past the end does not matter within
pub get_or_any : {A : Type 0} (xs : List A) (i : ℕ) (d e : A) → i < length xs → get_or xs i d ≡ get_or xs i e
get_or_any [] i d e l = absurd (not-suc-le-zero l)
get_or_any (x ∷ xs) zero d e l = refl
get_or_any (x ∷ xs) (suc i) d e l = get_or_any xs i d e (le_of_suc-le-suc l)

pub length_none : {A : Type 0} (xs : List A) → length xs ≡ 0 → xs ≡ []
length_none [] e = refl
length_none (x ∷ xs) e = absurd (omega arith)

pub map_at : (f : ℕ → ℕ) (xs : List ℕ) (i d e : ℕ) → i < length xs → get_or (map f xs) i d ≡ f (get_or xs i e)
map_at f [] i d e l = absurd (not-suc-le-zero l)
map_at f (x ∷ xs) zero d e l = refl
map_at f (x ∷ xs) (suc i) d e l = map_at f xs i d e (le_of_suc-le-suc l)

-- functions that agree on the elements
pub map_same {ℓ κ} : {A : Type ℓ} {B : Type κ} (f h : A → B) (xs : List A)
    → ((x : A) → Memᴰ x xs → f x ≡ h x) → map f xs ≡ map h xs
map_same f h [] e = refl
map_same f h (x ∷ xs) e = ap₂ ◌∷◌ (e x (Memᴰ.head refl)) (map_same f h xs (λ y m. e y (Memᴰ.tail m)))
