-- A part of a list that is lent on and comes back written: the list keeps its length, the part stands behind what stood before it, and what
-- stood behind it stays.
-- Assumes nothing.
use mathlib.Core.Path.{◌≡◌, sym, ap, ◌∙◌}
use mathlib.Core.List.{List, ◌++◌, append_assoc}
use Prim.Native.Nat.{ℕ, ◌+◌, ◌-◌, ◌≤◌}
use native.Mathlib.Omega.{arith}
use lib.ListN.{length, take, drop, length-append, length-drop}
use lib.Seq.{take_at, drop_at, drop-drop, length-take-le}

-- the list with ys in the place of its elements from a to e
abbrev pub put_part : ℕ → ℕ → List ℕ → List ℕ → List ℕ
put_part a e xs ys = take a xs ++ (ys ++ drop (e - a) (drop a xs))

module _ (a e : ℕ) (xs ys : List ℕ) (l : a ≤ e) (size : length ys ≡ e - a) where
  pub length_part : e ≤ length xs → length (put_part a e xs ys) ≡ length xs
  length_part fits = simp (length-append, length-drop) (omega (arith, length-take-le a xs (omega arith)))

  -- Where what is written ends at a, the part from a to e goes on.
  pub part_more : (before : List ℕ) → a ≤ length xs → take a xs ≡ before → take e (put_part a e xs ys) ≡ before ++ ys
  part_more before fits first =
      ap (take e) (sym (append_assoc (take a xs) ys (drop (e - a) (drop a xs))))
      ∙ take_at (take a xs ++ ys) (drop (e - a) (drop a xs)) e
      (length-append (take a xs) ys ∙ omega (arith, length-take-le a xs fits))
      ∙ ap (λ (t : List ℕ). t ++ ys) first

  pub part_rest : a ≤ length xs → drop e (put_part a e xs ys) ≡ drop e xs
  part_rest fits =
      let whole : a + (e - a) ≡ e = omega arith in
      ap (drop e) (sym (append_assoc (take a xs) ys (drop (e - a) (drop a xs))))
      ∙ drop_at (take a xs ++ ys) (drop (e - a) (drop a xs)) e
      (length-append (take a xs) ys ∙ omega (arith, length-take-le a xs fits))
      ∙ drop-drop (e - a) a xs ∙ ap (λ (n : ℕ). drop n xs) whole
