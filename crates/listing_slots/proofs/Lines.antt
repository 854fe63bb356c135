-- The loop over the lines of the slots: the lines read so far, and what is read from there on.
-- Assumes nothing.
use mathlib.Core.Path.{◌≡◌, refl, sym, ap, fun_ext, ◌∙◌}
use mathlib.Core.Bool.{true, false, not, ◌&&◌}
use mathlib.Core.List.{List, [], ◌∷◌, ◌++◌, append-nil}
use mathlib.Core.Logic.{⊎_elim}
use Prim.Native.Nat.{ℕ, zero, suc, ◌+◌, ◌-◌, ◌≤◌, ◌<◌}
use native.Mathlib.Numerals.{add-one}
use native.Mathlib.Omega.{arith}
use borrow.Author.Tests.{lt-ltb, not-false}
use lib.Dec.{ltb}
use lib.ListN.{length, take, drop}
use lib.Seq.{append_snoc, length-take-le}
use Rattle.definitions.specs.Lists.{tabulate, concat_map}
use Rattle.definitions.specs.Graph.{header_bytes}
use Rattle.definitions.specs.Sheet.{Line, Sheet}
use Rattle.definitions.specs.Listing.{slot_in}
use Rattle.laws.proofs.Lists.{decided}
use Rattle.listing.specs.Forms.{Form, value_of, answer_from, go_on}
use Rattle.listing.specs.Grammar.{literal, line_form, lines_form}
use Rattle.listing.proofs.Parts.{drop_all}
use Rattle.listing_parse.specs.declared.Part.{Part}
use Rattle.listing_parse.specs.Parts.{has_byte}
use Rattle.listing_parse.proofs.Chains.{choice_has, choice_lacks, byte_has}
use Rattle.listing_slots.specs.Rows.{rows, HasRows, Cleared}
use Rattle.listing_slots.specs.Read.{slot_form, SlotOf}
use Rattle.listing_slots.proofs.Laws.{rows_same, slot_apart, slot_last, slot_unnamed, Unnamed, unnamed_more}

module _ (size : ℕ) (text : List ℕ) (place : ℕ) where
  -- a slot's line follows
  pub lines_more : (left from : ℕ) (f : List Line → Form Sheet) → from < size → size ≤ from + left → has_byte text place 111 ≡ false
      → answer_from (lines_form left from size f) place (drop place text)
      ≡ answer_from (slot_form from size (λ l. lines_form (left - 1) (suc l.slot) size (λ lines. f (l ∷ lines)))) place (drop place text)
  unfolding lines_form line_form value_of
  lines_more zero from f inside enough other = absurd (omega arith)
  lines_more (suc left) from f inside enough other =
      let back : suc left - 1 ≡ left = omega arith in
      rw (lt-ltb from size inside, back) (choice_lacks text place 111 (f []) _ other refl)

  -- none does: what is read is the `o` of the line of outputs
  pub lines_end : (left from : ℕ) (f : List Line → Form Sheet) → (ltb from size && not (has_byte text place 111)) ≡ false
      → answer_from (lines_form left from size f) place (drop place text) ≡ answer_from (literal (111 ∷ []) (f [])) place (drop place text)
  unfolding lines_form literal
  lines_end zero from f ends = refl
  lines_end (suc left) from f ends =
      ⊎_elim (λ (t : ltb from size ≡ true).
      let here : has_byte text place 111 ≡ true = not-false (has_byte text place 111) (rw t at ends) in
      rw t (choice_has text place 111 (f []) _ here ∙ sym (byte_has text place 111 (f []) here)))
      (λ (t : ltb from size ≡ false). rw t)
      (decided (ltb from size))

-- the lines read so far; what they leave of the listing; and the table, which has the slots below `from`
pub record Going (size : ℕ) (text : List ℕ) (at from place : ℕ) (table : List ℕ) : Type 0 where
  pub done : List Line
  pub left : ℕ
  pub enough : size ≤ from + left
  pub within : from ≤ size
  pub goes : (f : List Line → Form Sheet) → answer_from (lines_form size 0 size f) at (drop at text)
      ≡ answer_from (lines_form left from size (λ rest. f (done ++ rest))) place (drop place text)
  pub ahead : (k : ℕ) → from ≤ k → Unnamed k done
  pub holds : HasRows (slot_in done) from table

pub going_none : (size : ℕ) (text : List ℕ) (at : ℕ) (table : List ℕ) → header_bytes ≤ length table → Going size text at 0 at table
unfolding Unnamed rows concat_map tabulate
going_none size text at table long = record {
  done = [];
  left = size;
  enough = omega arith;
  within = omega arith;
  goes = λ f. refl;
  ahead = λ k l. tt;
  holds = drop_all header_bytes (take header_bytes table) (omega (arith, length-take-le header_bytes table long));
}

module _ {size : ℕ} {text : List ℕ} {at from place : ℕ} {table : List ℕ} (h : Going size text at from place table) where
  -- one line more
  pub going_more : (after : List ℕ) (r : Part) → SlotOf from size text place table after r → from < size → has_byte text place 111 ≡ false
      → Going size text at (r.value + 1) r.next after
  unfolding go_on
  going_more after r read inside other =
      let line = read.line in
      let (here, low, high) = read.slot in
      let all : List Line = h.done ++ line ∷ [] in
      record {
        done = all;
        left = h.left - 1;
        enough = omega (arith, h.enough);
        within = omega arith;
        goes = λ f.
            h.goes f ∙ lines_more size text place h.left from (λ rest. f (h.done ++ rest)) inside h.enough other
            ∙ read.goes (λ l. lines_form (h.left - 1) (suc l.slot) size (λ lines. f (h.done ++ l ∷ lines)))
            ∙ ap (λ (k : ℕ). answer_from (lines_form (h.left - 1) k size (λ lines. f (h.done ++ line ∷ lines))) r.next (drop r.next text))
            (ap suc here ∙ sym (add-one r.value))
            ∙ ap (λ (g : List Line → Form Sheet). answer_from (lines_form (h.left - 1) (r.value + 1) size g) r.next (drop r.next text))
            (fun_ext (λ (lines : List Line). ap f (sym (append_snoc h.done line lines))));
        ahead = λ k l. unnamed_more h.done line k (h.ahead k (omega arith)) (λ e. omega arith);
        holds = read.holds (slot_in all)
            (h.holds ∙ sym (rows_same (slot_in all) (slot_in h.done) from (λ k l. slot_apart h.done line k (λ e. omega arith))))
            (λ k above below. slot_apart h.done line k (λ e. omega arith) ∙ slot_unnamed h.done k (h.ahead k above))
            (slot_last h.done line r.value here (h.ahead r.value low));
      }

  -- the slots behind the last line are emptied
  pub going_end : (after : List ℕ) → Cleared from size table after → HasRows (slot_in h.done) size after
  going_end after cleared = cleared.holds (slot_in h.done) (λ k low high. slot_unnamed h.done k (h.ahead k low)) h.holds

  -- and the `o` is read
  pub going_over : (f : List Line → Form Sheet) → (ltb from size && not (has_byte text place 111)) ≡ false
      → answer_from (lines_form size 0 size f) at (drop at text) ≡ answer_from (literal (111 ∷ []) (f h.done)) place (drop place text)
  going_over f ends =
      h.goes f ∙ lines_end size text place h.left from (λ rest. f (h.done ++ rest)) ends
      ∙ ap (λ (lines : List Line). answer_from (literal (111 ∷ []) (f lines)) place (drop place text)) (append-nil h.done)
