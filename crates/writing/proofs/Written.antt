-- What is written into a block from its start, piece by piece: one more element's bytes in a loop.
-- Assumes nothing.
use mathlib.Core.Path.{◌≡◌, ap, ◌∙◌, sym}
use mathlib.Core.List.{List, ◌++◌}
use Prim.Native.Nat.{ℕ, ◌+◌, ◌*◌, ◌<◌, ◌≤◌}
use native.Mathlib.Numerals.{add-one}
use native.Mathlib.Omega.{arith}
use lib.ListN.{length, get_or, take, drop, length-append}
use lib.Seq.{take-suc, take_at, length-take-le, sets, sets-eq}
use Rattle.std.proofs.lemmas.Nat.{mul-le}
use Rattle.definitions.specs.Lists.{concat_map}
use Rattle.laws.proofs.Parts.{put_part, length_part, part_more}
use Rattle.laws.proofs.Pieces.{concat_more}

-- what stands up to the end of the elements that are set from `at` on
pub take_sets : (vs l : List ℕ) (at : ℕ) → at + length vs ≤ length l → take (at + length vs) (sets l at vs) ≡ take at l ++ vs
take_sets vs l at h =
    ap (take (at + length vs)) (sets-eq vs l at h)
    ∙ take_at (take at l ++ vs) (drop (at + length vs) l) (at + length vs)
    (length-append (take at l) vs ∙ ap (λ (n : ℕ). n + length vs) (length-take-le at l (omega arith)))

-- Where the pieces of the first i elements are written, up to `at`, the next one's piece goes on.
pub written_more : {A : Type 0} (f : A → List ℕ) (xs : List A) (d : A) (part : List ℕ) (i at : ℕ) → i < length xs
    → at + length (f (get_or xs i d)) ≤ length part
    → take at part ≡ concat_map f (take i xs)
    → take (at + length (f (get_or xs i d))) (sets part at (f (get_or xs i d))) ≡ concat_map f (take (i + 1) xs)
written_more f xs d part i at l fits before =
    let x = get_or xs i d in
    take_sets (f x) part at fits ∙ ap (λ (t : List ℕ). t ++ f x) before ∙ sym (concat_more f (take i xs) x)
    ∙ ap (concat_map f) (sym (take-suc xs i d l) ∙ ap (λ (k : ℕ). take k xs) (sym (add-one i)))

-- Each element's piece has w bytes. Where those of the first i elements are written, the next one's piece, which is lent on, goes on.
module _ {A : Type 0} (f : A → List ℕ) (xs : List A) (d : A) (part piece : List ℕ) (w i : ℕ)
    (l : i < length xs) (size : length part ≡ w * length xs) (piece_size : length piece ≡ w) where
  place : w * (i + 1) ≡ w * i + w
  place = omega arith

  fits : w * i + w ≤ length part
  fits =
      let whole : w * (i + 1) ≤ w * length xs = mul-le w (i + 1) w (length xs) (omega arith) (omega arith) in
      rw (← place, size) whole

  pub piece_put : length (put_part (w * i) (w * i + w) part piece) ≡ w * length xs
  piece_put = length_part (w * i) (w * i + w) part piece (omega arith) (omega (arith, piece_size)) fits ∙ size

  pub piece_more : piece ≡ f (get_or xs i d) → take (w * i) part ≡ concat_map f (take i xs)
      → take (w * (i + 1)) (put_part (w * i) (w * i + w) part piece) ≡ concat_map f (take (i + 1) xs)
  piece_more same before =
      rw place
      (part_more (w * i) (w * i + w) part piece (omega arith) (omega (arith, piece_size)) (concat_map f (take i xs)) (omega (arith, fits)) before
      ∙ ap (λ (t : List ℕ). concat_map f (take i xs) ++ t) same ∙ sym (concat_more f (take i xs) (get_or xs i d))
      ∙ ap (concat_map f) (sym (take-suc xs i d l) ∙ ap (λ (k : ℕ). take k xs) (sym (add-one i))))
