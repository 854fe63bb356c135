-- Parts that follow one another, where a flag tells whether the first stops: then the whole stops, and else it goes on with the rest. And the
-- byte that decides between two parts.
-- Assumes nothing.
use mathlib.Core.Path.{◌≡◌, refl, ◌∙◌}
use mathlib.Core.Bool.{Bool, true, false}
use mathlib.Core.List.{List}
use mathlib.Core.Logic.{⊎_elim}
use mathlib.Core.Option.{none}
use Prim.Native.Nat.{ℕ, ◌+◌, ◌<◌}
use native.Mathlib.Numerals.{add-one}
use borrow.Author.Tests.{ltb-true, ltb-false, lt-ltb}
use lib.Dec.{ltb, eqb}
use lib.ListN.{length, get_or, drop}
use Rattle.laws.proofs.Lists.{decided, and_left, and_right}
use Rattle.listing.specs.Forms.{Form, byte, choice, value_of, stops_at, answer_from, go_on}
use Rattle.listing.specs.Parts.{got_if}
use Rattle.listing.proofs.Listings.{answer_early}
use Rattle.listing.proofs.Parts.{drop_all, byte_taken, choice_early, choice_taken, choice_other}
use Rattle.listing_parse.specs.Parts.{has_byte}

module _ {A B : Type 0} (f : A → Form B) (text : List ℕ) (a : A) (n : ℕ) where
  pub go_stopped : {stops : Bool} → stops ≡ true → go_on f text (got_if stops a n) ≡ stops_at n
  unfolding go_on got_if
  go_stopped e = rw e

  pub go_behind : {stops : Bool} → stops ≡ false → go_on f text (got_if stops a n) ≡ answer_from (f a) n (drop n text)
  unfolding go_on got_if
  go_behind e = rw e

-- what a part says, told otherwise
pub go_through : {A B C : Type 0} (f : B → Form C) (h : A → B) (text : List ℕ) (a : A) (n : ℕ) (stops : Bool)
    → go_on (λ (x : A). f (h x)) text (got_if stops a n) ≡ go_on f text (got_if stops (h a) n)
unfolding go_on got_if
go_through f h text a n true = refl
go_through f h text a n false = refl

module _ (text : List ℕ) (at b : ℕ) where
  pub has_inside : has_byte text at b ≡ true → at < length text
  unfolding has_byte
  has_inside h = ltb-true at (length text) (and_left (ltb at (length text)) (eqb (get_or text at 0) b) h)

  has_same : has_byte text at b ≡ true → eqb (get_or text at 0) b ≡ true
  unfolding has_byte
  has_same h = and_right (ltb at (length text)) (eqb (get_or text at 0) b) h

  has_other : at < length text → has_byte text at b ≡ false → eqb (get_or text at 0) b ≡ false
  unfolding has_byte
  has_other inside h = rw (lt-ltb at (length text) inside) at h

  module _ {A : Type 0} (f g : Form A) where
    -- the byte stands there
    pub choice_has : has_byte text at b ≡ true → answer_from (choice b f g) at (drop at text) ≡ answer_from f (at + 1) (drop (at + 1) text)
    choice_has h = choice_taken text at (has_inside h) b f g (has_same h) ∙ rw (add-one at)

    -- it does not: then the other part decides, which cannot end here
    pub choice_lacks : has_byte text at b ≡ false → value_of g ≡ none
        → answer_from (choice b f g) at (drop at text) ≡ answer_from g at (drop at text)
    choice_lacks h more =
        ⊎_elim (λ (t : ltb at (length text) ≡ true).
        let inside = ltb-true at (length text) t in
        choice_other text at inside b f g (has_other inside h))
        (λ (t : ltb at (length text) ≡ false).
        let over = ltb-false at (length text) t in
        choice_early text at b f g over ∙ rw (drop_all at text over, answer_early g at more))
        (decided (ltb at (length text)))

  -- the same of a byte that must stand there
  pub byte_has : {A : Type 0} (f : Form A) → has_byte text at b ≡ true → answer_from (byte b f) at (drop at text) ≡ answer_from f (at + 1) (drop (at + 1) text)
  byte_has f h = byte_taken text at (has_inside h) b f (has_same h) ∙ rw (add-one at)
