-- Rows, one more at a time; and the slots that lines give.
-- Assumes nothing.
use mathlib.Core.Path.{◌≡◌, refl, sym, ap, ap₂, ◌∙◌}
use mathlib.Core.List.{List, [], ◌∷◌, ◌++◌}
use Prim.Native.Nat.{ℕ, zero, suc, ◌+◌, ◌≤◌, ◌<◌}
use native.Mathlib.Numerals.{add-one}
use native.Mathlib.Omega.{arith}
use borrow.Author.Tests.{eq-eqb, ne_eqb}
use lib.ListN.{length, take, drop}
use lib.Seq.{drop-append-le, length-take-le}
use Rattle.definitions.specs.Lists.{tabulate, concat_map}
use Rattle.definitions.specs.Graph.{header_bytes, record_at, Slot, empty_slot}
use Rattle.definitions.specs.Sheet.{Line}
use Rattle.definitions.specs.Listing.{slot_line, slot_in}
use Rattle.laws.proofs.Pieces.{pieces_more}
use Rattle.graph_slots.specs.Written.{empty_bytes, SlotWritten}
use Rattle.listing_slots.specs.Rows.{row, rows, HasRows}

-- ---- rows

pub rows_more : (slots : ℕ → Slot) (n : ℕ) → rows slots (n + 1) ≡ rows slots n ++ row (slots n)
unfolding rows
rows_more slots n = pieces_more (λ k. row (slots k)) n (λ k. k)

-- rows are those of the slots below n alone
pub rows_same : (one other : ℕ → Slot) (n : ℕ) → ((k : ℕ) → k < n → one k ≡ other k) → rows one n ≡ rows other n
unfolding rows concat_map tabulate
rows_same one other zero same = refl
rows_same one other (suc n) same =
    ap (rows one) (sym (add-one n)) ∙ rows_more one n
    ∙ ap₂ ◌++◌ (rows_same one other n (λ k l. same k (omega arith))) (ap row (same n (omega arith)))
    ∙ sym (rows_more other n) ∙ ap (rows other) (add-one n)

pub empty_row : empty_bytes ≡ row empty_slot
unfolding empty_bytes row
empty_row = refl

-- a slot that is written behind the others
pub holds_more : (slots : ℕ → Slot) (k : ℕ) (bytes before after : List ℕ) → SlotWritten k bytes before after → bytes ≡ row (slots k)
    → record_at k ≤ length before → HasRows slots k before → HasRows slots (k + 1) after
holds_more slots k bytes before after w same inside h =
    ap (drop header_bytes) w.front
    ∙ drop-append-le header_bytes (take (record_at k) before) bytes (omega (arith, length-take-le (record_at k) before inside))
    ∙ ap₂ ◌++◌ h same ∙ sym (rows_more slots k)

-- ---- the slots of lines

pub slot_apart : (lines : List Line) (l : Line) (k : ℕ) → (l.slot ≡ k → ⊥) → slot_in (lines ++ l ∷ []) k ≡ slot_in lines k
unfolding slot_in
slot_apart [] l k other = rw (ne_eqb l.slot k other)
slot_apart (x ∷ lines) l k other = rw (slot_apart lines l k other)

-- no line has this number
unfoldable pub Unnamed : ℕ → List Line → Type 0
Unnamed k [] = Unit {0}
Unnamed k (l ∷ lines) = (l.slot ≡ k → ⊥) × Unnamed k lines

pub slot_last : (lines : List Line) (l : Line) (k : ℕ) → l.slot ≡ k → Unnamed k lines → slot_in (lines ++ l ∷ []) k ≡ slot_line l
unfolding slot_in Unnamed
slot_last [] l k same none = rw (eq-eqb l.slot k same)
slot_last (x ∷ lines) l k same (other, none) = rw (ne_eqb x.slot k other) (slot_last lines l k same none)

pub slot_unnamed : (lines : List Line) (k : ℕ) → Unnamed k lines → slot_in lines k ≡ empty_slot
unfolding slot_in Unnamed
slot_unnamed [] k none = refl
slot_unnamed (x ∷ lines) k (other, none) = rw (ne_eqb x.slot k other) (slot_unnamed lines k none)

pub unnamed_more : (lines : List Line) (l : Line) (k : ℕ) → Unnamed k lines → (l.slot ≡ k → ⊥) → Unnamed k (lines ++ l ∷ [])
unfolding Unnamed
unnamed_more [] l k none other = (other, tt)
unnamed_more (x ∷ lines) l k (differs, none) other = (differs, unnamed_more lines l k none other)
