-- Letters, one after the other, and what an answer of a part comes to.
-- Assumes nothing.
use mathlib.Core.Path.{◌≡◌, ap, ◌∙◌}
use mathlib.Core.List.{List}
use Prim.Native.Nat.{ℕ, suc, ◌+◌, ◌≤◌, ◌<◌}
use native.Mathlib.Numerals.{add-one}
use borrow.Author.Tests.{eq-eqb, ne_eqb}
use lib.ListN.{length, get_or, drop}
use lib.Seq.{drop-cons}
use Rattle.listing.specs.Forms.{Form, byte, stops_at, answer_from}
use Rattle.listing.specs.Grammar.{literal}
use Rattle.listing.proofs.Parts.{drop_all, byte_early, byte_taken, byte_refused}

module _ {A : Type 0} (text letters : List ℕ) (i place : ℕ) (left : i < length letters) (f : Form A) where
  -- the letters from i on begin with letter i
  next : literal (drop i letters) f ≡ byte (get_or letters i 0) (literal (drop (suc i) letters) f)
  unfolding literal
  next = ap (λ (cs : List ℕ). literal cs f) (drop-cons letters i 0 left)

  begun : answer_from (literal (drop i letters) f) place (drop place text)
      ≡ answer_from (byte (get_or letters i 0) (literal (drop (suc i) letters) f)) place (drop place text)
  begun = ap (λ (g : Form A). answer_from g place (drop place text)) next

  pub letters_early : length text ≤ place → answer_from (literal (drop i letters) f) place (drop place text) ≡ stops_at place
  letters_early over = begun ∙ byte_early text place (get_or letters i 0) (literal (drop (suc i) letters) f) over

  pub letters_other : place < length text → (get_or text place 0 ≡ get_or letters i 0 → ⊥)
      → answer_from (literal (drop i letters) f) place (drop place text) ≡ stops_at place
  letters_other inside other =
      begun ∙ byte_refused text place inside (get_or letters i 0) (literal (drop (suc i) letters) f) (ne_eqb (get_or text place 0) (get_or letters i 0) other)

  pub letters_same : place < length text → get_or text place 0 ≡ get_or letters i 0
      → answer_from (literal (drop i letters) f) place (drop place text)
      ≡ answer_from (literal (drop (i + 1) letters) f) (place + 1) (drop (place + 1) text)
  letters_same inside same =
      begun ∙ byte_taken text place inside (get_or letters i 0) (literal (drop (suc i) letters) f) (eq-eqb (get_or text place 0) (get_or letters i 0) same)
      ∙ rw (add-one i, add-one place)

-- no letters are left
pub letters_over : {A : Type 0} (letters : List ℕ) (i : ℕ) (f : Form A) → length letters ≤ i → literal (drop i letters) f ≡ f
unfolding literal
letters_over letters i f over = ap (λ (cs : List ℕ). literal cs f) (drop_all i letters over)
