-- The answer of a form goes on behind each of its parts: a byte, a choice, a list of numbers.
-- Assumes nothing.
use mathlib.Core.Path.{◌≡◌, refl, sym, ap, ◌∙◌}
use mathlib.Core.Bool.{true, false, cond}
use mathlib.Core.List.{List, [], ◌∷◌}
use mathlib.Core.Logic.{◌⊎◌, ⊎_elim}
use Prim.Native.Nat.{ℕ, zero, suc, ◌-◌, ◌≤◌, ◌<◌}
use native.Mathlib.Omega.{arith}
use borrow.Author.Tests.{ltb-true, ltb-false, lt-ltb, le-ltb}
use lib.Dec.{eqb, ltb}
use lib.IntN.{ℤ}
use lib.ListN.{length, get_or, drop}
use lib.Seq.{drop-cons}
use Rattle.laws.proofs.Lists.{decided}
use Rattle.definitions.specs.Numerals.{Field}
use Rattle.listing.specs.Typing.{nothing, Got, stopped, got, number_from}
use Rattle.listing.specs.Forms.{Form, ended, byte, choice, number, step, value_of, stops_at, answer_from, go_on}
use Rattle.listing.specs.Grammar.{spaced_form, joined_form}
use Rattle.listing.specs.Parts.{with_first, behind_number, at_place, spaced_from, joined_from}
use Rattle.listing.proofs.Listings.{answer_early, answer_stops, answer-goes}
use Rattle.listing.proofs.Answers.{answer-number, same_step}

pub drop_all : {A : Type 0} (n : ℕ) (xs : List A) → length xs ≤ n → drop n xs ≡ []
drop_all zero [] l = refl
drop_all zero (x ∷ xs) l = absurd (omega arith)
drop_all (suc n) [] l = refl
drop_all (suc n) (x ∷ xs) l = drop_all n xs (omega arith)

module _ {A : Type 0} (whole : List ℕ) (at : ℕ) where
  -- the text has ended
  pub byte_early : (b : ℕ) (f : Form A) → length whole ≤ at → answer_from (byte b f) at (drop at whole) ≡ stops_at at
  unfolding value_of
  byte_early b f l = ap (answer_from (byte b f) at) (drop_all at whole l) ∙ answer_early (byte b f) at refl

  pub choice_early : (b : ℕ) (f g : Form A) → length whole ≤ at → answer_from (choice b f g) at (drop at whole) ≡ stops_at at
  unfolding value_of
  choice_early b f g l = ap (answer_from (choice b f g) at) (drop_all at whole l) ∙ answer_early (choice b f g) at refl

  module _ (inside : at < length whole) where
    pub byte_taken : (b : ℕ) (f : Form A) → eqb (get_or whole at 0) b ≡ true
        → answer_from (byte b f) at (drop at whole) ≡ answer_from f (suc at) (drop (suc at) whole)
    unfolding step
    byte_taken b f t =
        ap (answer_from (byte b f) at) (drop-cons whole at 0 inside)
        ∙ answer-goes (byte b f) at (get_or whole at 0) (drop (suc at) whole) f (rw t)

    pub byte_refused : (b : ℕ) (f : Form A) → eqb (get_or whole at 0) b ≡ false → answer_from (byte b f) at (drop at whole) ≡ stops_at at
    unfolding step
    byte_refused b f t =
        ap (answer_from (byte b f) at) (drop-cons whole at 0 inside)
        ∙ answer_stops (byte b f) at (get_or whole at 0) (drop (suc at) whole) (rw t)

    pub choice_taken : (b : ℕ) (f g : Form A) → eqb (get_or whole at 0) b ≡ true
        → answer_from (choice b f g) at (drop at whole) ≡ answer_from f (suc at) (drop (suc at) whole)
    unfolding step
    choice_taken b f g t =
        ap (answer_from (choice b f g) at) (drop-cons whole at 0 inside)
        ∙ answer-goes (choice b f g) at (get_or whole at 0) (drop (suc at) whole) f (rw t)

    pub choice_other : (b : ℕ) (f g : Form A) → eqb (get_or whole at 0) b ≡ false
        → answer_from (choice b f g) at (drop at whole) ≡ answer_from g at (drop at whole)
    unfolding step
    choice_other b f g t =
        ap (answer_from (choice b f g) at) (drop-cons whole at 0 inside)
        ∙ same_step (choice b f g) g at (get_or whole at 0) (drop (suc at) whole) (rw t)
        ∙ ap (answer_from g at) (sym (drop-cons whole at 0 inside))

-- ---- a list of numbers

module _ (whole : List ℕ) (at : ℕ) (f : ℕ → Got (List ℤ)) where
  pub place_early : length whole ≤ at → at_place whole at f ≡ stopped at
  unfolding at_place
  place_early l = rw (le-ltb at (length whole) l)

  pub place_inside : at < length whole → at_place whole at f ≡ f (get_or whole at 0)
  unfolding at_place
  place_inside l = rw (lt-ltb at (length whole) l)

module _ {A : Type 0} (field : Field) (stop : ℕ) (whole : List ℕ) (f : List ℤ → Form A) where
  go_first : (z : ℤ) (g : Got (List ℤ)) → go_on (λ zs. f (z ∷ zs)) whole g ≡ go_on f whole (with_first z g)
  unfolding go_on with_first
  go_first z (stopped at) = refl
  go_first z (got zs at) = refl

  -- a number, and what is read behind it
  go_behind : (next : ℕ → Got (List ℤ)) (more : ℤ → Form A)
      → ((z : ℤ) (n : ℕ) → answer_from (more z) n (drop n whole) ≡ go_on (λ zs. f (z ∷ zs)) whole (next n))
      → (g : Got ℤ) → go_on more whole g ≡ go_on f whole (behind_number next g)
  unfolding go_on behind_number
  go_behind next more ih (stopped at) = refl
  go_behind next more ih (got z at) = ih z at ∙ go_first z (next at)

  -- the byte that ends the list
  end_part : (at : ℕ) → answer_from (byte stop (f [])) at (drop at whole)
      ≡ go_on f whole (at_place whole at (λ c. cond (eqb c stop) (got [] (suc at)) (stopped at)))
  unfolding go_on
  end_part at =
      let choose : ℕ → Got (List ℤ) = λ c. cond (eqb c stop) (got [] (suc at)) (stopped at) in
      ⊎_elim (λ (t : ltb at (length whole) ≡ true).
      let inside = ltb-true at (length whole) t in
      ⊎_elim (λ (same : eqb (get_or whole at 0) stop ≡ true).
      rw (place_inside whole at choose inside, same) (byte_taken whole at inside stop (f []) same))
      (λ (other : eqb (get_or whole at 0) stop ≡ false).
      rw (place_inside whole at choose inside, other) (byte_refused whole at inside stop (f []) other))
      (decided (eqb (get_or whole at 0) stop)))
      (λ (t : ltb at (length whole) ≡ false).
      let past = ltb-false at (length whole) t in
      rw (place_early whole at choose past) (byte_early whole at stop (f []) past))
      (decided (ltb at (length whole)))

  -- a space and a number
  module _ (next : ℕ → Got (List ℤ)) (more : ℤ → Form A)
      (ih : (z : ℤ) (n : ℕ) → answer_from (more z) n (drop n whole) ≡ go_on (λ zs. f (z ∷ zs)) whole (next n)) where
    number_part : (at : ℕ) → answer_from (number field nothing more) at (drop at whole)
        ≡ go_on f whole (behind_number next (number_from field nothing at (drop at whole)))
    number_part at =
        answer-number field more (drop at whole) nothing at whole refl
        ∙ go_behind next more ih (number_from field nothing at (drop at whole))

    space_part : (at : ℕ) → answer_from (byte 32 (number field nothing more)) at (drop at whole)
        ≡ go_on f whole (at_place whole at (λ c.
        cond (eqb c 32) (behind_number next (number_from field nothing (suc at) (drop (suc at) whole))) (stopped at)))
    unfolding go_on
    space_part at =
        let choose : ℕ → Got (List ℤ) = λ c.
        cond (eqb c 32) (behind_number next (number_from field nothing (suc at) (drop (suc at) whole))) (stopped at) in
        ⊎_elim (λ (t : ltb at (length whole) ≡ true).
        let inside = ltb-true at (length whole) t in
        ⊎_elim (λ (same : eqb (get_or whole at 0) 32 ≡ true).
        rw (place_inside whole at choose inside, same) (byte_taken whole at inside 32 (number field nothing more) same ∙ number_part (suc at)))
        (λ (other : eqb (get_or whole at 0) 32 ≡ false).
        rw (place_inside whole at choose inside, other) (byte_refused whole at inside 32 (number field nothing more) other))
        (decided (eqb (get_or whole at 0) 32)))
        (λ (t : ltb at (length whole) ≡ false).
        let past = ltb-false at (length whole) t in
        rw (place_early whole at choose past) (byte_early whole at 32 (number field nothing more) past))
        (decided (ltb at (length whole)))

    -- the byte that ends the list, or a space and a number
    either_part : (at : ℕ) → answer_from (choice stop (f []) (byte 32 (number field nothing more))) at (drop at whole)
        ≡ go_on f whole (at_place whole at (λ c. cond (eqb c stop) (got [] (suc at))
        (cond (eqb c 32) (behind_number next (number_from field nothing (suc at) (drop (suc at) whole))) (stopped at))))
    unfolding go_on
    either_part at =
        let other_form : Form A = byte 32 (number field nothing more) in
        let choose2 : ℕ → Got (List ℤ) = λ c.
        cond (eqb c 32) (behind_number next (number_from field nothing (suc at) (drop (suc at) whole))) (stopped at) in
        let choose : ℕ → Got (List ℤ) = λ c. cond (eqb c stop) (got [] (suc at)) (choose2 c) in
        ⊎_elim (λ (t : ltb at (length whole) ≡ true).
        let inside = ltb-true at (length whole) t in
        ⊎_elim (λ (same : eqb (get_or whole at 0) stop ≡ true).
        rw (place_inside whole at choose inside, same) (choice_taken whole at inside stop (f []) other_form same))
        (λ (other : eqb (get_or whole at 0) stop ≡ false).
        rw (place_inside whole at choose inside, other)
        (choice_other whole at inside stop (f []) other_form other ∙ space_part at ∙ ap (go_on f whole) (place_inside whole at choose2 inside)))
        (decided (eqb (get_or whole at 0) stop)))
        (λ (t : ltb at (length whole) ≡ false).
        let past = ltb-false at (length whole) t in
        rw (place_early whole at choose past) (choice_early whole at stop (f []) other_form past))
        (decided (ltb at (length whole)))

pub answer-spaced : {A : Type 0} (field : Field) (stop : ℕ) (whole : List ℕ) (least most : ℕ) (f : List ℤ → Form A) (at : ℕ)
    → answer_from (spaced_form least most field stop f) at (drop at whole) ≡ go_on f whole (spaced_from least most field stop whole at)
unfolding spaced_form spaced_from
answer-spaced field stop whole zero zero f at = end_part field stop whole f at
answer-spaced field stop whole (suc least) zero f at = end_part field stop whole f at
answer-spaced field stop whole zero (suc most) f at =
    either_part field stop whole f (spaced_from zero most field stop whole) (λ z. spaced_form zero most field stop (λ zs. f (z ∷ zs)))
    (λ z n. answer-spaced field stop whole zero most (λ zs. f (z ∷ zs)) n) at
answer-spaced field stop whole (suc least) (suc most) f at =
    space_part field stop whole f (spaced_from least most field stop whole) (λ z. spaced_form least most field stop (λ zs. f (z ∷ zs)))
    (λ z n. answer-spaced field stop whole least most (λ zs. f (z ∷ zs)) n) at

pub answer-joined : {A : Type 0} (field : Field) (stop : ℕ) (whole : List ℕ) (least most : ℕ) (f : List ℤ → Form A) (at : ℕ)
    → answer_from (joined_form least most field stop f) at (drop at whole) ≡ go_on f whole (joined_from least most field stop whole at)
unfolding joined_form joined_from spaced_from
answer-joined field stop whole zero zero f at = end_part field stop whole f at
answer-joined field stop whole (suc least) zero f at = end_part field stop whole f at
answer-joined field stop whole least (suc most) f at =
    number_part field stop whole f (spaced_from (least - 1) most field stop whole) (λ z. spaced_form (least - 1) most field stop (λ zs. f (z ∷ zs)))
    (λ z n. answer-spaced field stop whole (least - 1) most (λ zs. f (z ∷ zs)) n) at
