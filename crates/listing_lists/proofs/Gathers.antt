-- The loop that reads a list of numbers into words.
-- Assumes nothing.
use mathlib.Core.Path.{◌≡◌, refl, ap, ◌∙◌}
use mathlib.Core.Bool.{Bool, true, false, ◌&&◌}
use mathlib.Core.List.{List, [], ◌∷◌, ◌++◌, map}
use mathlib.Core.Logic.{⊎_elim}
use Prim.Native.Nat.{ℕ, zero, suc, ◌+◌, ◌-◌, ◌^◌, ◌<◌, ◌≤◌}
use native.Mathlib.Numerals.{add-one}
use native.Mathlib.Omega.{arith}
use borrow.Author.Tests.{ltb-true, ltb-false, eq-eqb, ne_eqb}
use lib.Dec.{ltb, leb, eqb}
use lib.IntN.{ℤ}
use lib.ListN.{length, get_or, drop, set, replicate, length-append}
use Rattle.definitions.specs.Lists.{all, padded}
use Rattle.definitions.specs.Fields.{word_of}
use Rattle.laws.proofs.Lists.{decided, and_left, and_right}
use Rattle.definitions.specs.Numerals.{Field, in_field}
use Rattle.listing.specs.Typing.{nothing, valued, stopped, got, number_from}
use Rattle.listing.specs.Parts.{spaced_from}
use Rattle.listing.proofs.Reach.{within_high}
use Rattle.listing.proofs.Gathering.{Gathered, gathered_none, gathered_over, gathered_ends, gathered_full, gathered_other, gathered_stops, gathered_more}
use Rattle.listing_lists.specs.Lists.{list_limit}

-- a number of a field of words has a magnitude of 32 bits
pub small_magnitude : (field : Field) (negative : Bool) (value : ℕ) → field.high < 2 ^ 32 → field.below < 2 ^ 32
    → in_field field (valued negative value) ≡ true → value < 2 ^ 32
unfolding in_field valued
small_magnitude field false value high below h = omega (arith, within_high field.low value field.high h)
small_magnitude field true zero high below h = omega arith
small_magnitude field true (suc value) high below h = omega (arith, ltb-true value field.below h)

-- the numbers read so far, and their words
pub record Gathers (field : Field) (stop : ℕ) (text : List ℕ) (least most at i count : ℕ) (words : List ℕ) : Type 0 where
  pub numbers : List ℤ
  pub so_far : Gathered field stop text least most at i numbers
  pub counted : length numbers ≡ count
  pub held : words ≡ padded list_limit 0 (map word_of numbers)
  pub fits : all (in_field field) numbers ≡ true

pub gathers_none : (field : Field) (stop : ℕ) (text : List ℕ) (least most at : ℕ)
    → Gathers field stop text least most at at 0 (replicate list_limit 0)
unfolding padded all
gathers_none field stop text least most at =
    record { numbers = []; so_far = gathered_none field stop text least most at; counted = refl; held = refl; fits = refl }

-- one word more
held_more : (n : ℕ) (zs : List ℤ) (z : ℤ) → length zs < n
    → set (padded n 0 (map word_of zs)) (length zs) (word_of z) ≡ padded n 0 (map word_of (zs ++ z ∷ []))
unfolding padded
held_more zero zs z l = absurd (omega arith)
held_more (suc n) [] z l = refl
held_more (suc n) (y ∷ zs) z l = ap (λ (ws : List ℕ). word_of y ∷ ws) (held_more n zs z (omega arith))

all_more : (p : ℤ → Bool) (zs : List ℤ) (z : ℤ) → all p zs ≡ true → p z ≡ true → all p (zs ++ z ∷ []) ≡ true
unfolding all
all_more p [] z h here = rw here
all_more p (y ∷ zs) z h here = rw (and_left (p y) (all p zs) h) (all_more p zs z (and_right (p y) (all p zs) h) here)

module _ {field : Field} {stop : ℕ} {text : List ℕ} {least most at i count : ℕ} {words : List ℕ} (least_most : least ≤ most)
    (h : Gathers field stop text least most at i count words) where
  pub gathers_over : length text ≤ i → spaced_from least most field stop text at ≡ stopped i
  gathers_over l = gathered_over field stop text least most at i h.numbers least_most h.so_far l

  module _ (inside : i < length text) where
    pub gathers_ends : least ≤ count → eqb (get_or text i 0) stop ≡ true → spaced_from least most field stop text at ≡ got h.numbers (suc i)
    gathers_ends l same =
        gathered_ends field stop text least most at i h.numbers least_most h.so_far inside (omega (arith, h.counted)) same

    module _ (goes : (leb least count && eqb (get_or text i 0) stop) ≡ false) where
      goes_so : (leb least (length h.numbers) && eqb (get_or text i 0) stop) ≡ false
      goes_so = rw h.counted goes

      pub gathers_full : count ≡ most → spaced_from least most field stop text at ≡ stopped i
      gathers_full full =
          gathered_full field stop text least most at i h.numbers least_most h.so_far inside goes_so (h.counted ∙ full)

      module _ (not_full : count ≡ most → ⊥) where
        pub room : count < most
        room =
            ⊎_elim (λ (t : ltb count most ≡ true). ltb-true count most t)
            (λ (f : ltb count most ≡ false). absurd (not_full (omega (arith, ltb-false count most f, h.so_far.few, h.counted))))
            (decided (ltb count most))

        room_so : length h.numbers < most
        room_so = omega (arith, room, h.counted)

        pub gathers_other : (get_or text i 0 ≡ 32 → ⊥) → spaced_from least most field stop text at ≡ stopped i
        gathers_other other =
            gathered_other field stop text least most at i h.numbers least_most h.so_far inside goes_so room_so (ne_eqb (get_or text i 0) 32 other)

        module _ (space : get_or text i 0 ≡ 32) where
          pub gathers_stops : (p : ℕ) → number_from field nothing (i + 1) (drop (i + 1) text) ≡ stopped p
              → spaced_from least most field stop text at ≡ stopped p
          gathers_stops p e =
              gathered_stops field stop text least most at i h.numbers least_most h.so_far inside goes_so room_so (eq-eqb (get_or text i 0) 32 space)
              p (rw add-one at e)

          pub gathers_more : (z : ℤ) (n w : ℕ) → w ≡ word_of z → number_from field nothing (i + 1) (drop (i + 1) text) ≡ got z n
              → in_field field z ≡ true → most ≤ list_limit → Gathers field stop text least most at n (count + 1) (set words count w)
          gathers_more z n w word e inside-field limit =
              record {
                numbers = h.numbers ++ z ∷ [];
                so_far = gathered_more field stop text least most at i h.numbers least_most h.so_far inside goes_so room_so
                    (eq-eqb (get_or text i 0) 32 space) z n (rw add-one at e);
                counted = length-append h.numbers (z ∷ []) ∙ ap (λ (k : ℕ). k + 1) h.counted;
                held = rw (h.held, ← h.counted, word) (held_more list_limit h.numbers z (omega (arith, room_so)));
                fits = all_more (in_field field) h.numbers z h.fits inside-field;
              }

-- ---- the word of a number

pub word_zero : (negative : Bool) (value : ℕ) → negative ≡ true → value ≡ 0 → 0 ≡ word_of (valued negative value)
unfolding word_of valued
word_zero negative value n v = rw (n, v)

negative-word : (k : ℕ) → (k ≡ 0 → ⊥) → 4294967296 - k ≡ word_of (valued true k)
unfolding word_of valued
negative-word zero nonzero = absurd (nonzero refl)
negative-word (suc k) nonzero = omega arith

pub word-negative : (negative : Bool) (value : ℕ) → negative ≡ true → (value ≡ 0 → ⊥) → 4294967296 - value ≡ word_of (valued negative value)
word-negative negative value n v = rw n (negative-word value v)

pub word-plain : (negative : Bool) (value : ℕ) → negative ≡ false → value ≡ word_of (valued negative value)
unfolding word_of valued
word-plain negative value n = rw n
