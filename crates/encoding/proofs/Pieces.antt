-- A list that is made of pieces, by index: pieces of one size that stand one after the other, and what holds of every index
-- because it holds of the indices of each part.
-- Assumes nothing.
use mathlib.Core.Path.{◌≡◌, sym, ap, ap₂, ◌∙◌}
use mathlib.Core.Bool.{true, false}
use mathlib.Core.List.{List, [], ◌∷◌, ◌++◌}
use mathlib.Core.Logic.{⊎_elim}
use Prim.Native.Nat.{ℕ, zero, suc, ◌+◌, ◌-◌, ◌*◌, ◌/◌, ◌%◌, ◌<◌, ◌≤◌}
use native.Mathlib.Nat.{not-suc-le-zero, le_of_suc-le-suc, mod-lt, div-add-mod, div-lt_iff_lt-mul, mul_comm, mul-suc, mul-le-mul_left}
use native.Mathlib.Omega.{arith}
use borrow.Author.Tests.{ltb-true, ltb-false}
use lib.Dec.{ltb}
use lib.ListN.{length, get_or, take, drop, length-append, length-drop, get_or-append}
use lib.Seq.{length-take-le, get_or-take, get_or-drop, get_or-append-add, ext_get_or}
use Rattle.definitions.specs.Lists.{tabulate, concat_map}
use Rattle.laws.proofs.Lists.{decided, length-tabulate, get_or_tabulate}
use Rattle.laws.proofs.Pieces.{length_pieces}

-- ---- what holds of every index below a bound

module _ {ℓ} (P : ℕ → Type ℓ) where
  -- of those below a, and of the b that follow
  pub in_parts : (a b : ℕ) → ((i : ℕ) → i < a → P i) → ((i : ℕ) → i < b → P (a + i)) → (i : ℕ) → i < a + b → P i
  in_parts a b front back i l =
      ⊎_elim (λ (t : ltb i a ≡ true). front i (ltb-true i a t))
      (λ (t : ltb i a ≡ false).
      let low : a ≤ i = ltb-false i a t in
      let e : a + (i - a) ≡ i = omega arith in
      rw e at (back (i - a) (omega arith)))
      (decided (ltb i a))

  -- of each index in each of `count` pieces of one size
  pub in_pieces : (size count : ℕ) → 0 < size → ((k i : ℕ) → k < count → i < size → P (size * k + i))
      → (i : ℕ) → i < size * count → P i
  in_pieces size count pos each i l =
      rw (div-add-mod i size) at (each (i / size) (i % size)
      ((div-lt_iff_lt-mul pos).1 (rw (mul_comm size count) at l)) (mod-lt i pos))

  -- of two indices, and of four
  pub below_two : P 0 → P 1 → (i : ℕ) → i < 2 → P i
  below_two p q zero l = p
  below_two p q (suc zero) l = q
  below_two p q (suc (suc i)) l = absurd (omega arith)

  pub below_four : P 0 → P 1 → P 2 → P 3 → (i : ℕ) → i < 4 → P i
  below_four p q r s zero l = p
  below_four p q r s (suc zero) l = q
  below_four p q r s (suc (suc zero)) l = r
  below_four p q r s (suc (suc (suc zero))) l = s
  below_four p q r s (suc (suc (suc (suc i)))) l = absurd (omega arith)

-- ---- elements of a list that is made of two

module _ {A : Type 0} where
  pub at_first : (xs ys : List A) (n i : ℕ) (d : A) → length xs ≡ n → i < n → get_or (xs ++ ys) i d ≡ get_or xs i d
  at_first xs ys n i d e l = get_or-append xs ys d i (omega arith)

  pub at_second : (xs ys : List A) (n i : ℕ) (d : A) → length xs ≡ n → get_or (xs ++ ys) (n + i) d ≡ get_or ys i d
  at_second xs ys n i d e = rw (← e) (get_or-append-add xs ys i d)

  pub length_two : (xs ys : List A) (n m : ℕ) → length xs ≡ n → length ys ≡ m → length (xs ++ ys) ≡ n + m
  length_two xs ys n m e f = length-append xs ys ∙ ap₂ ◌+◌ e f

  -- a list is tabulated from its elements
  pub tabulated : (n : ℕ) (f : ℕ → A) (xs : List A) (d : A) → n ≡ length xs → ((i : ℕ) → i < length xs → f i ≡ get_or xs i d)
      → tabulate n f ≡ xs
  tabulated n f xs d e same =
      ext_get_or d (tabulate n f) xs (length-tabulate n f ∙ e)
      (λ i l.
      let m : i < n = omega (arith, length-tabulate n f) in
      get_or_tabulate n f i d m ∙ same i (omega arith))

-- ---- pieces of one size

module _ {A : Type 0} {B : Type 0} (f : A → List B) (size : ℕ) (a : A) where
  -- element i of piece k
  pub piece_at : (xs : List A) → ((k : ℕ) → k < length xs → length (f (get_or xs k a)) ≡ size)
      → (k i : ℕ) (b : B) → k < length xs → i < size → get_or (concat_map f xs) (size * k + i) b ≡ get_or (f (get_or xs k a)) i b
  unfolding concat_map
  piece_at [] sized k i b l m = absurd (not-suc-le-zero l)
  piece_at (x ∷ xs) sized zero i b l m =
      let e : size * 0 + i ≡ i = omega arith in
      rw e (at_first (f x) (concat_map f xs) size i b (sized 0 (omega arith)) m)
  piece_at (x ∷ xs) sized (suc k) i b l m =
      let e : size * suc k + i ≡ size + (size * k + i) = omega arith in
      rw e (at_second (f x) (concat_map f xs) size (size * k + i) b (sized 0 (omega arith))
      ∙ piece_at xs (λ j n. sized (suc j) (omega arith)) k i b (le_of_suc-le-suc l) m)

-- and of elements that are given by their numbers
module _ {A : Type 0} {B : Type 0} (f : A → List B) (size n : ℕ) (h : ℕ → A) (sized : (k : ℕ) → k < n → length (f (h k)) ≡ size) where
  each_sized : (k : ℕ) → k < length (tabulate n h) → length (f (get_or (tabulate n h) k (h 0))) ≡ size
  each_sized k l =
      let inside : k < n = omega (arith, length-tabulate n h) in
      ap (λ (x : A). length (f x)) (get_or_tabulate n h k (h 0) inside) ∙ sized k inside

  pub length-numbered : length (concat_map f (tabulate n h)) ≡ size * n
  length-numbered =
      length_pieces f size (h 0) (tabulate n h) each_sized ∙ ap (λ (m : ℕ). size * m) (length-tabulate n h)

  pub numbered-at : (k i : ℕ) (b : B) → k < n → i < size → get_or (concat_map f (tabulate n h)) (size * k + i) b ≡ get_or (f (h k)) i b
  numbered-at k i b l m =
      piece_at f size (h 0) (tabulate n h) each_sized k i b (omega (arith, length-tabulate n h)) m
      ∙ ap (λ (x : A). get_or (f x) i b) (get_or_tabulate n h k (h 0) l)

-- and of pieces that stand behind a head
module _ {B : Type 0} (head : List B) (from size n : ℕ) (f : ℕ → List B) (start : length head ≡ from)
    (sized : (k : ℕ) → k < n → length (f k) ≡ size) where
  abbrev headed : List B
  headed = head ++ concat_map f (tabulate n (λ k. k))

  pub headed-length : length headed ≡ from + size * n
  headed-length = length_two head (concat_map f (tabulate n (λ k. k))) from (size * n) start (length-numbered f size n (λ k. k) sized)

  pub headed-at : (b : B) (k : ℕ) → k < n → (i : ℕ) → i < size → get_or headed (from + size * k + i) b ≡ get_or (f k) i b
  headed-at b k l i m =
      let e : from + size * k + i ≡ from + (size * k + i) = omega arith in
      rw e (at_second head (concat_map f (tabulate n (λ j. j))) from (size * k + i) b start ∙ numbered-at f size n (λ j. j) sized k i b l m)

  -- so a piece can be cut out
  pub headed_cut : (b : B) (k : ℕ) → k < n → take size (drop (from + size * k) headed) ≡ f k
  headed_cut b k l =
      let run = take size (drop (from + size * k) headed) in
      let inside : size * k + size ≤ size * n = pieces_below k l in
      let long : length run ≡ size =
      length-take-le size (drop (from + size * k) headed) (simp length-drop (omega (arith, headed-length))) in
      ext_get_or b run (f k) (long ∙ sym (sized k l))
      (λ i m.
      let within : i < size = omega arith in
      get_or-take size (drop (from + size * k) headed) i b within ∙ get_or-drop (from + size * k) headed i b ∙ headed-at b k l i within)
    where
      pieces_below : (k : ℕ) → k < n → size * k + size ≤ size * n
      pieces_below k l = rw (← mul-suc size k) (mul-le-mul_left size l)
