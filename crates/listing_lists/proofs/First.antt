-- A list that is read behind its first number.
-- Assumes nothing.
use mathlib.Core.Path.{◌≡◌, refl, ap, ◌∙◌}
use mathlib.Core.Bool.{true}
use mathlib.Core.List.{List, [], ◌∷◌, map}
use Prim.Native.Nat.{ℕ, zero, suc, ◌+◌, ◌-◌, ◌≤◌, ◌<◌}
use native.Mathlib.Omega.{arith}
use lib.IntN.{ℤ}
use lib.ListN.{length, take, drop, length-map}
use Rattle.definitions.specs.Lists.{all, padded}
use Rattle.definitions.specs.Fields.{word_of}
use Rattle.definitions.specs.Numerals.{Field, in_field}
use Rattle.laws.proofs.Padded.{length-padded}
use Rattle.listing.specs.Typing.{nothing, Got, stopped, got, number_from}
use Rattle.listing.specs.Parts.{with_first, behind_number, spaced_from, joined_from}
use Rattle.std.specs.declared.result.Result.TheVariants.{Ok, Err}
use Rattle.listing_numbers.specs.declared.Stopped.{Stopped}
use Rattle.listing_lists.specs.declared.Numbers.{Numbers}
use Rattle.listing_lists.specs.Lists.{list_limit, Holds}

-- fewer places of a list that fits in them
pub take-padded : (d n m : ℕ) (xs : List ℕ) → n ≤ m → length xs ≤ n → take n (padded m d xs) ≡ padded n d xs
unfolding padded
take-padded d zero m [] l few = refl
take-padded d zero m (x ∷ xs) l few = absurd (omega arith)
take-padded d (suc n) zero xs l few = absurd (omega arith)
take-padded d (suc n) (suc m) [] l few = ap (λ (ys : List ℕ). d ∷ ys) (take-padded d n m [] (omega arith) (omega arith))
take-padded d (suc n) (suc m) (x ∷ xs) l few = ap (λ (ys : List ℕ). x ∷ ys) (take-padded d n m xs (omega arith) (omega arith))

module _ (field : Field) (most : ℕ) where
  -- the words are as many as an array of them has
  pub held-length : (r : Numbers) (g : Got (List ℤ)) → Holds field most (Ok r) g → most ≤ list_limit → length r.words ≡ list_limit
  unfolding Holds
  held-length r (stopped at) h l = absurd h
  held-length r (got zs at) h l = ap length h.0.words ∙ length-padded 0 list_limit (map word_of zs) (omega (arith, length-map zs word_of, h.0.few))

  pub held-count : (r : Numbers) (g : Got (List ℤ)) → Holds field most (Ok r) g → r.count ≤ most
  unfolding Holds
  held-count r (stopped at) h = absurd h
  held-count r (got zs at) h = omega (arith, h.0.count, h.0.few)

  -- where the others stop, the whole stops
  pub first_stops : (e : Stopped) (z : ℤ) (g : Got (List ℤ)) → Holds field most (Err e) g → Holds field (most + 1) (Err e) (with_first z g)
  unfolding Holds with_first
  first_stops e z (stopped at) h = h
  first_stops e z (got zs at) h = h

  -- and where they are read, the first stands in front of them
  pub first_goes : (r : Numbers) (z : ℤ) (g : Got (List ℤ)) (w : ℕ) → Holds field most (Ok r) g → in_field field z ≡ true → w ≡ word_of z
      → most < list_limit → Holds field (most + 1) (Ok (record { next = r.next; count = r.count + 1; words = w ∷ take 5 r.words })) (with_first z g)
  unfolding Holds with_first padded all
  first_goes r z (stopped at) w h fits word l = h
  first_goes r z (got zs at) w h fits word l = (
    record {
      count = omega (arith, h.0.count);
      words = rw (word, h.0.words) (ap (λ (ws : List ℕ). word_of z ∷ ws)
          (take-padded 0 5 6 (map word_of zs) (omega arith) (omega (arith, length-map zs word_of, h.0.few))));
      few = omega (arith, h.0.few);
      fits = rw fits h.0.fits;
    },
    h.1,
  )

-- ---- a list with single spaces between its numbers

module _ (field : Field) (stop : ℕ) (text : List ℕ) (least at : ℕ) where
  pub joined_none : (most : ℕ) → most ≡ 0 → spaced_from least most field stop text at ≡ joined_from least most field stop text at
  unfolding joined_from
  joined_none zero e = refl
  joined_none (suc most) e = absurd (omega arith)

  pub joined_stops : (most p : ℕ) → (most ≡ 0 → ⊥) → number_from field nothing at (drop at text) ≡ stopped p
      → joined_from least most field stop text at ≡ stopped p
  unfolding joined_from behind_number
  joined_stops zero p some e = absurd (some refl)
  joined_stops (suc most) p some e = ap (behind_number (spaced_from (least - 1) most field stop text)) e

  pub joined-goes : (most : ℕ) (z : ℤ) (n : ℕ) → (most ≡ 0 → ⊥) → number_from field nothing at (drop at text) ≡ got z n
      → joined_from least most field stop text at ≡ with_first z (spaced_from (least - 1) (most - 1) field stop text n)
  unfolding joined_from behind_number
  joined-goes zero z n some e = absurd (some refl)
  joined-goes (suc most) z n some e =
      let back : suc most - 1 ≡ most = omega arith in
      rw back (ap (behind_number (spaced_from (least - 1) most field stop text)) e)
