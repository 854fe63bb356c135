-- The loop that reads a list of numbers: the numbers read so far, and what is read from there on.
-- Assumes nothing.
use mathlib.Core.Path.{◌≡◌, refl, sym, ap, ◌∙◌}
use mathlib.Core.Bool.{true, false, ◌&&◌}
use mathlib.Core.List.{List, [], ◌∷◌, ◌++◌, append-nil}
use mathlib.Core.Logic.{⊎_elim}
use mathlib.Core.Option.{Option, none, some}
use Prim.Native.Nat.{ℕ, zero, suc, ◌+◌, ◌-◌, ◌≤◌, ◌<◌}
use native.Mathlib.Omega.{arith}
use borrow.Author.Tests.{leb-true, leb-false, lt-leb}
use lib.Dec.{eqb, leb}
use lib.IntN.{ℤ}
use lib.ListN.{length, get_or, drop, length-drop, length-append}
use Rattle.laws.proofs.Lists.{decided, option_either}
use Rattle.definitions.specs.Numerals.{Field, in_field}
use Rattle.listing.specs.Typing.{Typed, nothing, is_numeric, whole, typed_with, Got, stopped, got, ended_at, number_from}
use Rattle.listing.specs.Parts.{with_first, behind_number, spaced_from}
use Rattle.listing.proofs.Answers.{number_ends, number_stops, number-goes}
use Rattle.listing.proofs.Parts.{place_early, place_inside}

-- ---- a number that is read lies in its field, and ends at or behind the place where it begins

unfoldable pub GotWell : Field → ℕ → ℕ → Got ℤ → Type 0
GotWell field at limit (stopped p) = (at ≤ p) × (p ≤ limit)
GotWell field at limit (got z n) = (in_field field z ≡ true) × (at ≤ n) × (n ≤ limit)

ended_well : (field : Field) (at limit : ℕ) → at ≤ limit → (z : Option ℤ) → GotWell field at limit (ended_at field at z)
unfolding ended_at GotWell
ended_well field at limit l none = (omega arith, l)
ended_well field at limit l (some z) =
    ⊎_elim (λ (t : in_field field z ≡ true). rw t (t, omega arith, l)) (λ (f : in_field field z ≡ false). rw f (omega arith, l)) (decided (in_field field z))

later_well : (field : Field) (at limit : ℕ) (g : Got ℤ) → GotWell field (suc at) limit g → GotWell field at limit g
unfolding GotWell
later_well field at limit (stopped p) h = (omega (arith, h.0), h.1)
later_well field at limit (got z n) h = (h.0, omega (arith, h.1), h.2)

pub number_well : (field : Field) (text : List ℕ) (t : Typed) (at limit : ℕ) → at + length text ≤ limit → GotWell field at limit (number_from field t at text)
unfolding number_from GotWell
number_well field [] t at limit l = (omega arith, omega arith)
number_well field (c ∷ text) t at limit l =
    ⊎_elim (λ (numeric : is_numeric c ≡ true).
    ⊎_elim (λ (stops : typed_with field t c ≡ none). rw (number_stops field t at c text numeric stops) (omega arith, omega arith))
    (λ (goes : (next : Typed) × (typed_with field t c ≡ some next)).
    rw (number-goes field t at c text goes.0 numeric goes.1)
    (later_well field at limit (number_from field goes.0 (suc at) text) (number_well field text goes.0 (suc at) limit (omega arith))))
    (option_either (typed_with field t c)))
    (λ (other : is_numeric c ≡ false). rw (number_ends field t at c text other) (ended_well field at limit (omega arith) (whole t)))
    (decided (is_numeric c))

-- where a number that is read ends, and where one stops
module _ (field : Field) (text : List ℕ) (i : ℕ) (inside : i ≤ length text) where
  well : GotWell field i (length text) (number_from field nothing i (drop i text))
  well = number_well field (drop i text) nothing i (length text) (omega (arith, length-drop i text))

  pub got_well : (z : ℤ) (n : ℕ) → number_from field nothing i (drop i text) ≡ got z n
      → (in_field field z ≡ true) × (i ≤ n) × (n ≤ length text)
  unfolding GotWell
  got_well z n e = rw e at well

  pub stopped_well : (p : ℕ) → number_from field nothing i (drop i text) ≡ stopped p → p ≤ length text
  unfolding GotWell
  stopped_well p e = (rw e at well).1

-- ---- one turn of a list

module _ (field : Field) (stop : ℕ) (whole-text : List ℕ) where
  pub list_over : (least most i : ℕ) → length whole-text ≤ i → spaced_from least most field stop whole-text i ≡ stopped i
  unfolding spaced_from
  list_over zero zero i l = place_early whole-text i _ l
  list_over (suc least) zero i l = place_early whole-text i _ l
  list_over zero (suc most) i l = place_early whole-text i _ l
  list_over (suc least) (suc most) i l = place_early whole-text i _ l

  module _ (i : ℕ) (inside : i < length whole-text) where
    pub list_ends : (least most : ℕ) → least ≡ 0 → eqb (get_or whole-text i 0) stop ≡ true → spaced_from least most field stop whole-text i ≡ got [] (suc i)
    unfolding spaced_from
    list_ends zero zero e same = place_inside whole-text i _ inside ∙ rw same
    list_ends zero (suc most) e same = place_inside whole-text i _ inside ∙ rw same
    list_ends (suc least) most e same = absurd (omega arith)

    -- it cannot end here
    abbrev Goes : ℕ → Type 0
    Goes least = (leb least 0 && eqb (get_or whole-text i 0) stop) ≡ false

    pub list_full : (least most : ℕ) → least ≤ most → Goes least → most ≡ 0 → spaced_from least most field stop whole-text i ≡ stopped i
    unfolding spaced_from
    list_full zero zero l goes e = place_inside whole-text i _ inside ∙ rw goes
    list_full (suc least) zero l goes e = absurd (omega arith)
    list_full least (suc most) l goes e = absurd (omega arith)

    pub list_other : (least most : ℕ) → Goes least → 0 < most → eqb (get_or whole-text i 0) 32 ≡ false
        → spaced_from least most field stop whole-text i ≡ stopped i
    unfolding spaced_from
    list_other least zero goes l other = absurd (omega arith)
    list_other zero (suc most) goes l other = place_inside whole-text i _ inside ∙ rw (goes, other)
    list_other (suc least) (suc most) goes l other = place_inside whole-text i _ inside ∙ rw other

    pub list_number : (least most : ℕ) → Goes least → 0 < most → eqb (get_or whole-text i 0) 32 ≡ true
        → spaced_from least most field stop whole-text i
        ≡ behind_number (spaced_from (least - 1) (most - 1) field stop whole-text) (number_from field nothing (suc i) (drop (suc i) whole-text))
    unfolding spaced_from
    list_number least zero goes l same = absurd (omega arith)
    list_number zero (suc most) goes l same =
        let e : suc most - 1 ≡ most = omega arith in
        place_inside whole-text i _ inside ∙ rw (goes, same, e)
    list_number (suc least) (suc most) goes l same =
        let e : suc most - 1 ≡ most = omega arith in
        let e2 : suc least - 1 ≡ least = omega arith in
        place_inside whole-text i _ inside ∙ rw (same, e, e2)

-- ---- the numbers read so far, in front of what is read from there on

unfoldable pub with_all : List ℤ → Got (List ℤ) → Got (List ℤ)
with_all [] g = g
with_all (z ∷ zs) g = with_first z (with_all zs g)

with_more : (zs : List ℤ) (z : ℤ) (g : Got (List ℤ)) → with_all (zs ++ z ∷ []) g ≡ with_all zs (with_first z g)
unfolding with_all
with_more [] z g = refl
with_more (y ∷ zs) z g = ap (with_first y) (with_more zs z g)

pub with_stopped : (zs : List ℤ) (p : ℕ) → with_all zs (stopped p) ≡ stopped p
unfolding with_all with_first
with_stopped [] p = refl
with_stopped (z ∷ zs) p = ap (with_first z) (with_stopped zs p)

pub with_ended : (zs ys : List ℤ) (p : ℕ) → with_all zs (got ys p) ≡ got (zs ++ ys) p
unfolding with_all with_first
with_ended [] ys p = refl
with_ended (z ∷ zs) ys p = ap (with_first z) (with_ended zs ys p)

pub record Gathered (field : Field) (stop : ℕ) (text : List ℕ) (least most at i : ℕ) (numbers : List ℤ) : Type 0 where
  pub few : length numbers ≤ most
  pub same : spaced_from least most field stop text at
      ≡ with_all numbers (spaced_from (least - length numbers) (most - length numbers) field stop text i)

pub gathered_none : (field : Field) (stop : ℕ) (text : List ℕ) (least most at : ℕ) → Gathered field stop text least most at at []
unfolding with_all
gathered_none field stop text least most at =
    let e : least - 0 ≡ least = omega arith in
    let e2 : most - 0 ≡ most = omega arith in
    record { few = omega arith; same = rw (e, e2) }

module _ (field : Field) (stop : ℕ) (text : List ℕ) (least most at i : ℕ) (numbers : List ℤ) (least_most : least ≤ most)
    (h : Gathered field stop text least most at i numbers) where
  pub gathered_over : length text ≤ i → spaced_from least most field stop text at ≡ stopped i
  gathered_over l =
      h.same ∙ ap (with_all numbers) (list_over field stop text (least - length numbers) (most - length numbers) i l) ∙ with_stopped numbers i

  module _ (inside : i < length text) where
    pub gathered_ends : least ≤ length numbers → eqb (get_or text i 0) stop ≡ true → spaced_from least most field stop text at ≡ got numbers (suc i)
    gathered_ends l same =
        h.same ∙ ap (with_all numbers) (list_ends field stop text i inside (least - length numbers) (most - length numbers) (omega arith) same)
        ∙ with_ended numbers [] (suc i) ∙ ap (λ (zs : List ℤ). got zs (suc i)) (append-nil numbers)

    module _ (goes : (leb least (length numbers) && eqb (get_or text i 0) stop) ≡ false) where
      goes_on : (leb (least - length numbers) 0 && eqb (get_or text i 0) stop) ≡ false
      goes_on =
          ⊎_elim (λ (t : leb least (length numbers) ≡ true).
          let zero_left : least - length numbers ≡ 0 = omega (arith, leb-true least (length numbers) t) in
          rw zero_left (rw t at goes))
          (λ (f : leb least (length numbers) ≡ false).
          rw (lt-leb (least - length numbers) 0 (omega (arith, leb-false least (length numbers) f))))
          (decided (leb least (length numbers)))

      pub gathered_full : length numbers ≡ most → spaced_from least most field stop text at ≡ stopped i
      gathered_full full =
          h.same ∙ ap (with_all numbers) (list_full field stop text i inside (least - length numbers) (most - length numbers) (omega arith) goes_on (omega arith))
          ∙ with_stopped numbers i

      module _ (room : length numbers < most) where
        pub gathered_other : eqb (get_or text i 0) 32 ≡ false → spaced_from least most field stop text at ≡ stopped i
        gathered_other other =
            h.same ∙ ap (with_all numbers) (list_other field stop text i inside (least - length numbers) (most - length numbers) goes_on (omega arith) other)
            ∙ with_stopped numbers i

        module _ (space : eqb (get_or text i 0) 32 ≡ true) where
          one_more : (g : Got ℤ) → number_from field nothing (suc i) (drop (suc i) text) ≡ g
              → spaced_from least most field stop text at
              ≡ with_all numbers (behind_number (spaced_from (least - length numbers - 1) (most - length numbers - 1) field stop text) g)
          one_more g e =
              h.same
              ∙ ap (with_all numbers) (list_number field stop text i inside (least - length numbers) (most - length numbers) goes_on (omega arith) space
              ∙ ap (behind_number (spaced_from (least - length numbers - 1) (most - length numbers - 1) field stop text)) e)

          pub gathered_stops : (p : ℕ) → number_from field nothing (suc i) (drop (suc i) text) ≡ stopped p
              → spaced_from least most field stop text at ≡ stopped p
          unfolding behind_number
          gathered_stops p e = one_more (stopped p) e ∙ with_stopped numbers p

          pub gathered_more : (z : ℤ) (n : ℕ) → number_from field nothing (suc i) (drop (suc i) text) ≡ got z n
              → Gathered field stop text least most at n (numbers ++ z ∷ [])
          unfolding behind_number
          gathered_more z n e =
              let long = length-append numbers (z ∷ []) in
              let e1 : least - length numbers - 1 ≡ least - length (numbers ++ z ∷ []) = omega arith in
              let e2 : most - length numbers - 1 ≡ most - length (numbers ++ z ∷ []) = omega arith in
              record {
                few = omega arith;
                same = one_more (got z n) e ∙ sym (with_more numbers z (spaced_from (least - length numbers - 1) (most - length numbers - 1) field stop text n))
                    ∙ rw (e1, e2);
              }
