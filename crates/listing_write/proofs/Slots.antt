-- The lines of the slots below a number, as a loop writes them, are those of the listing.
-- Assumes nothing.
use mathlib.Core.Path.{◌≡◌, refl, sym, ap, ◌∙◌}
use mathlib.Core.Bool.{true, false}
use mathlib.Core.List.{List, [], ◌∷◌, ◌++◌, map, map-append, append-nil}
use mathlib.Core.Logic.{⊎_elim}
use Prim.Native.Nat.{ℕ, zero, suc, ◌+◌, ◌≤◌, ◌<◌}
use native.Mathlib.Numerals.{add-one}
use native.Mathlib.Omega.{arith}
use borrow.Author.Tests.{leb-true, leb-false}
use lib.Dec.{leb}
use lib.ListN.{length, length-append}
use Rattle.definitions.specs.Lists.{filter, range, tabulate, concat_map}
use Rattle.definitions.specs.Graph.{Graph, is_vertex}
use Rattle.definitions.specs.Sheet.{line_text}
use Rattle.definitions.specs.Listing.{line_of}
use Rattle.laws.proofs.Lists.{decided}
use Rattle.laws.proofs.Filtered.{filtered_more}
use Rattle.laws.proofs.Pieces.{concat_more}
use Rattle.listing_print.specs.Laid.{text_limit}
use Rattle.listing_write.specs.Parts.{slot_text, slots_text}

module _ (g : Graph) where
  pub slot_some : (k : ℕ) → is_vertex g k ≡ true → slot_text g k ≡ line_text (line_of g k)
  unfolding slot_text
  slot_some k t = simp t

  pub slot_none : (k : ℕ) → is_vertex g k ≡ false → slot_text g k ≡ []
  unfolding slot_text
  slot_none k f = simp f

  pub slots_none : slots_text g 0 ≡ []
  unfolding slots_text
  slots_none = refl

  pub slots_more : (k : ℕ) → slots_text g (k + 1) ≡ slots_text g k ++ slot_text g k
  unfolding slots_text
  slots_more k = ap (slots_text g) (add-one k)

  slots_longer : (n k : ℕ) → k ≤ n → length (slots_text g k) ≤ length (slots_text g n)
  slots_longer zero k l =
      let e : k ≡ 0 = omega arith in
      omega (arith, ap (λ (j : ℕ). length (slots_text g j)) e)
  slots_longer (suc n) k l =
      let more = ap (λ (j : ℕ). length (slots_text g j)) (sym (add-one n)) ∙ ap length (slots_more n) ∙ length-append (slots_text g n) (slot_text g n) in
      ⊎_elim (λ (t : leb k n ≡ true). omega (arith, more, slots_longer n k (leb-true k n t)))
      (λ (f : leb k n ≡ false).
      let e : k ≡ suc n = omega (arith, leb-false k n f) in
      omega (arith, ap (λ (j : ℕ). length (slots_text g j)) e))
      (decided (leb k n))

  -- where the lines of all slots have room, one more has
  pub slots-room : (n k at : ℕ) → k < n → at + length (slots_text g n) ≤ text_limit → at + length (slots_text g k ++ slot_text g k) ≤ text_limit
  slots-room n k at l room = omega (arith, ap length (slots_more k), slots_longer n (k + 1) (omega arith))

  abbrev lines : ℕ → List ℕ
  lines n = concat_map line_text (map (line_of g) (filter (is_vertex g) (range 0 n)))

  pub slots-lines : (n : ℕ) → slots_text g n ≡ lines n
  unfolding slots_text concat_map filter range tabulate
  slots-lines zero = refl
  slots-lines (suc n) = ap (λ (t : List ℕ). t ++ slot_text g n) (slots-lines n) ∙ one_more
    where
      before : List ℕ
      before = filter (is_vertex g) (range 0 n)

      one_more : lines n ++ slot_text g n ≡ lines (suc n)
      one_more =
          ⊎_elim (λ (t : is_vertex g n ≡ true).
          let next : filter (is_vertex g) (range 0 (suc n)) ≡ before ++ n ∷ [] = rw t at (filtered_more (is_vertex g) n) in
          ap (λ (x : List ℕ). lines n ++ x) (slot_some n t) ∙ sym (concat_more line_text (map (line_of g) before) (line_of g n))
          ∙ ap (concat_map line_text) (sym (map-append (line_of g) before (n ∷ [])))
          ∙ ap (λ (vs : List ℕ). concat_map line_text (map (line_of g) vs)) (sym next))
          (λ (f : is_vertex g n ≡ false).
          let next : filter (is_vertex g) (range 0 (suc n)) ≡ before ++ [] = rw f at (filtered_more (is_vertex g) n) in
          ap (λ (x : List ℕ). lines n ++ x) (slot_none n f) ∙ append-nil (lines n)
          ∙ ap (λ (vs : List ℕ). concat_map line_text (map (line_of g) vs)) (sym (next ∙ append-nil before)))
          (decided (is_vertex g n))
