-- Laws of laying pieces one behind the other.
-- Assumes nothing.
use mathlib.Core.Path.{◌≡◌, sym, ap, ap₂, ◌∙◌}
use mathlib.Core.List.{List, [], ◌++◌, append_assoc}
use Prim.Native.Nat.{ℕ, ◌+◌, ◌-◌, ◌≤◌, ◌<◌}
use native.Mathlib.Omega.{arith}
use lib.ListN.{length, take, drop, length-append, length-drop}
use lib.Seq.{take_at, drop-drop, drop-append-add, length-take-le, paste-zero}
use Rattle.laws.proofs.Parts.{put_part}
use Rattle.listing_print.specs.Laid.{text_limit, laid, Laid}

module _ (at : ℕ) (p text : List ℕ) (fits : at + length p ≤ length text) where
  front : length (take at text ++ p) ≡ at + length p
  front = length-append (take at text) p ∙ omega (arith, length-take-le at text (omega arith))

  -- p and then q behind it are p ++ q
  laid_again : (q : List ℕ) → laid (at + length p) q (laid at p text) ≡ laid at (p ++ q) text
  unfolding laid
  laid_again q =
      let rest = drop (at + length p) text in
      let whole : at + length p + length q ≡ at + length (p ++ q) = omega (arith, length-append p q) in
      ap₂ (λ (a b : List ℕ). a ++ q ++ b)
      (take_at (take at text ++ p) rest (at + length p) front)
      (ap (λ (n : ℕ). drop n (take at text ++ p ++ rest)) (ap (λ (n : ℕ). n + length q) (sym front))
      ∙ drop-append-add (take at text ++ p) rest (length q)
      ∙ drop-drop (length q) (at + length p) text ∙ ap (λ (n : ℕ). drop n text) whole)
      ∙ ap (λ (a : List ℕ). a ++ drop (at + length (p ++ q)) text) (append_assoc (take at text) p q)

  pub length-laid : length (laid at p text) ≡ length text
  unfolding laid
  length-laid = length-append (take at text ++ p) (drop (at + length p) text)
      ∙ omega (arith, front, length-drop (at + length p) text)

-- nothing is laid
pub laid_none : (at : ℕ) (text : List ℕ) → Laid at [] text text at
unfolding laid
laid_none at text = record { next = omega arith; held = λ fits. paste-zero text at [] }

-- where it does not fit, its end is told
pub laid_out : {at end : ℕ} {piece before : List ℕ} → end ≡ at + length piece → length before < end → Laid at piece before before end
laid_out e l = record { next = e; held = λ fits. absurd (omega arith) }

-- a part that is lent on, from `at` to its end, and comes back as the piece
pub laid_part : {at end : ℕ} {piece part before : List ℕ} → end ≡ at + length piece → part ≡ piece
    → Laid at piece before (put_part at end before part) end
unfolding laid
laid_part {at} {end} {piece} {part} {before} e same = record {
  next = e;
  held = λ fits.
      let whole : at + (end - at) ≡ at + length piece = omega arith in
      ap₂ (λ (a b : List ℕ). take at before ++ (a ++ b)) same
      (drop-drop (end - at) at before ∙ ap (λ (n : ℕ). drop n before) whole)
      ∙ sym (append_assoc (take at before) piece (drop (at + length piece) before));
}

-- one piece, and one behind it
pub laid_then : {at next end : ℕ} {p q before between after : List ℕ} → Laid at p before between next → Laid next q between after end
    → Laid at (p ++ q) before after end
laid_then {at} {next} {end} {p} {q} {before} {between} {after} first second = record {
  next = omega (arith, first.next, second.next, length-append p q);
  held = λ fits.
      let room : at + length p ≤ length before = omega (arith, length-append p q) in
      let same = first.held room in
      let long : length between ≡ length before = ap length same ∙ length-laid at p before room in
      second.held (omega (arith, first.next, length-append p q)) ∙ ap₂ (λ (n : ℕ) (t : List ℕ). laid n q t) first.next same
      ∙ laid_again at p before room q;
}

-- the same piece by another name
pub laid_as : {at end : ℕ} {p q before after : List ℕ} → p ≡ q → Laid at p before after end → Laid at q before after end
laid_as {at} {end} {before = before} {after = after} e h = rw e at h

-- where both pieces have room, the first has, and the second behind it
module _ (p q : List ℕ) (at : ℕ) (room : at + length (p ++ q) ≤ text_limit) where
  pub room-first : at + length p ≤ text_limit
  room-first = omega (arith, length-append p q)

  pub room_next : {next : ℕ} {before between : List ℕ} → Laid at p before between next → next + length q ≤ text_limit
  room_next first = omega (arith, first.next, length-append p q)
