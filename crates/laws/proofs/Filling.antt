-- An array that is filled from the front: after i turns it is the padded list of the first i values.
-- Assumes nothing.
use mathlib.Core.Path.{◌≡◌, refl, ap}
use mathlib.Core.List.{List, [], ◌∷◌, map}
use Prim.Native.Nat.{ℕ, zero, suc, ◌+◌, ◌<◌, ◌≤◌}
use native.Mathlib.Nat.{not-suc-le-zero, le_of_suc-le-suc}
use native.Mathlib.Numerals.{add-one}
use native.Mathlib.Omega.{arith}
use lib.ListN.{length, get_or, set, take}
use lib.Seq.{take_all}
use Rattle.definitions.specs.Lists.{padded}

module _ {A B : Type 0} (f : A → B) (d : A) (z : B) where
  place_set : (n : ℕ) (xs : List A) (i : ℕ) → i < n → i < length xs
      → set (padded n z (map f (take i xs))) i (f (get_or xs i d)) ≡ padded n z (map f (take (suc i) xs))
  unfolding padded
  place_set zero xs i h l = absurd (not-suc-le-zero h)
  place_set (suc n) [] i h l = absurd (not-suc-le-zero l)
  place_set (suc n) (x ∷ xs) zero h l = refl
  place_set (suc n) (x ∷ xs) (suc i) h l = ap (λ (ys : List B). f x ∷ ys) (place_set n xs i (le_of_suc-le-suc h) (le_of_suc-le-suc l))

  -- one more turn, with what it stores
  pub filled_more : (n : ℕ) (xs : List A) (i : ℕ) {y : B} {ys : List B} → i < n → i < length xs → y ≡ f (get_or xs i d)
      → ys ≡ padded n z (map f (take i xs)) → set ys i y ≡ padded n z (map f (take (i + 1) xs))
  filled_more n xs i h l e same = rw (same, e, add-one) (place_set n xs i h l)

-- The invariant of a loop that fills an array of n places: the first i of the `count` values stand in it, as `f` makes them, and `z` behind
-- them.
pub record Filling {A B : Type 0} (f : A → B) (z : B) (n : ℕ) (xs : List A) (count i : ℕ) (ys : List B) : Type 0 where
  pub counted : count ≡ length xs
  pub fits : count ≤ n
  pub within : i ≤ count
  pub filled : ys ≡ padded n z (map f (take i xs))

module _ {A B : Type 0} {f : A → B} {z : B} {n : ℕ} {xs : List A} {count : ℕ} where
  -- before the first turn every place is unused
  pub filling_none : {ys : List B} → count ≡ length xs → count ≤ n → ys ≡ padded n z [] → Filling f z n xs count 0 ys
  filling_none e l same = record { counted = e; fits = l; within = omega arith; filled = same }

  -- a turn stores the next value
  pub filling_more : (d : A) {i : ℕ} {y : B} {ys : List B} → Filling f z n xs count i ys → i < count → y ≡ f (get_or xs i d)
      → Filling f z n xs count (i + 1) (set ys i y)
  filling_more d h l e = record {
    counted = h.counted;
    fits = h.fits;
    within = omega arith;
    filled = filled_more f d z n xs _ (omega (arith, h.fits)) (omega (arith, h.counted)) e h.filled;
  }

  -- after the last turn the array has them all
  pub filling_all : {i : ℕ} {ys : List B} → Filling f z n xs count i ys → count ≤ i → ys ≡ padded n z (map f xs)
  filling_all {i} h l = rw (take_all i xs (omega (arith, h.counted))) at h.filled
