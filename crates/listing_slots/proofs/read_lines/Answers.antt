use mathlib.Core.Path.{◌≡◌, refl, sym, ◌∙◌}
use mathlib.Core.Bool.{true, false, not, ◌&&◌}
use mathlib.Core.List.{List, [], ◌∷◌, ◌++◌}
use Prim.Native.Nat.{ℕ, suc, ◌-◌, ◌≤◌}
use native.Mathlib.Omega.{arith}
use borrow.Author.Tests.{ltb-true, not-true}
use lib.Dec.{ltb}
use lib.ListN.{length, drop}
use Rattle.std.specs.declared.result.Result.{Result}
use Rattle.std.specs.declared.result.Result.TheVariants.{Ok, Err}
use Rattle.definitions.specs.Sheet.{Line, Sheet}
use Rattle.definitions.specs.Listing.{slot_in}
use Rattle.laws.proofs.Lists.{and_left, and_right}
use Rattle.listing.specs.Forms.{Form, answer_from, go_on}
use Rattle.listing.specs.Grammar.{literal, lines_form}
use Rattle.listing.specs.Parts.{PartRead}
use Rattle.listing_numbers.proofs.Stops.{stops}
use Rattle.listing_numbers.specs.declared.Stopped.{Stopped}
use Rattle.listing_parse.specs.declared.Part.{Part}
use Rattle.listing_parse.specs.Parts.{part_of, place_of, has_byte}
use Rattle.listing_slots.specs.Rows.{HasRows}
use Rattle.listing_slots.specs.Read.{LinesRead}
use Rattle.listing_slots.proofs.Lines.{lines_more, going_none, going_more, going_end, going_over}
use Rattle.listing_slots.proofs.read_lines.Goals as goal

pub loop-table-init : goal.loop-table-init
loop-table-init c = (c.requires.at_in_bounds, refl, going_none c.args.size c.args.text.now c.args.at c.args.table.now (omega (arith, c.requires.table_len)))

pub returns-in_err-line : goal.returns-in_err-line
unfolding go_on
returns-in_err-line c = let over : (ltb c.loop-table.from c.args.size && not (has_byte c.args.text.now c.loop-table.place 111)) ≡ true = sym c.more_lines.ensures ∙ c.loop-table-test.true in
    let inside = ltb-true c.loop-table.from c.args.size (and_left (ltb c.loop-table.from c.args.size) (not (has_byte c.args.text.now c.loop-table.place 111)) over) in
    let other = not-true (has_byte c.args.text.now c.loop-table.place 111) (and_right (ltb c.loop-table.from c.args.size) (not (has_byte c.args.text.now c.loop-table.place 111)) over) in
    let h = c.loop-table.invariant.2 in
    rw (stops c.from_residual.result c.in_err-line.field-0.0 c.from_residual.ensures.1)
    (record {
      goes = λ f. h.goes f ∙ lines_more c.args.size c.args.text.now c.loop-table.place h.left c.loop-table.from (λ rest. f (h.done ++ rest)) inside h.enough other
          ∙ c.in_err-line.ensures.0.goes (λ x. lines_form (h.left - 1) (suc x.slot) c.args.size (λ lines. f (h.done ++ x ∷ lines)));
      next = c.in_err-line.ensures.0.next;
    })

pub loop-table-preserved : goal.loop-table-preserved
loop-table-preserved c = let over : (ltb c.loop-table.from c.args.size && not (has_byte c.args.text.now c.loop-table.place 111)) ≡ true = sym c.more_lines.ensures ∙ c.loop-table-test.true in
    let inside = ltb-true c.loop-table.from c.args.size (and_left (ltb c.loop-table.from c.args.size) (not (has_byte c.args.text.now c.loop-table.place 111)) over) in
    let other = not-true (has_byte c.args.text.now c.loop-table.place 111) (and_right (ltb c.loop-table.from c.args.size) (not (has_byte c.args.text.now c.loop-table.place 111)) over) in (
      c.in_ok-line.ensures.next,
      c.in_ok-line.ensures.kept ∙ c.loop-table.invariant.1,
      going_more c.loop-table.invariant.2 c.read_slot.new.table c.in_ok-line.line c.in_ok-line.ensures inside other,
    )

-- behind the last line the `o` is read, and the table has every slot's record
lines_done : (size : ℕ) (text : List ℕ) (at place : ℕ) (after : List ℕ) (lines : List Line) (r : Result Part Stopped)
    → ((f : List Line → Form Sheet) → answer_from (lines_form size 0 size f) at (drop at text) ≡ answer_from (literal (111 ∷ []) (f lines)) place (drop place text))
    → PartRead {A = ℕ} (λ f. literal (111 ∷ []) (f 0)) text place (part_of r) → place_of r ≤ length text → HasRows (slot_in lines) size after
    → LinesRead size text at after r
unfolding go_on
lines_done size text at place after lines (Ok r) before letters inside holds =
    record { lines = lines; goes = λ f. before f ∙ letters (λ k. f lines); next = inside; holds = holds }
lines_done size text at place after lines (Err e) before letters inside holds =
    record { goes = λ f. before f ∙ letters (λ k. f lines); next = inside }

pub returns : goal.returns
returns c = let over : (ltb c.loop-table.from c.args.size && not (has_byte c.args.text.now c.loop-table.place 111)) ≡ false =
    sym c.more_lines.ensures ∙ c.loop-table-test.false in
    let h = c.loop-table.invariant.2 in
    lines_done c.args.size c.args.text.now c.args.at c.loop-table.place c.clear_slots.new.table h.done c.read_letters.result
    (λ f. going_over h f over) c.read_letters.ensures.part_read c.read_letters.ensures.next_in_bounds
    (going_end h c.clear_slots.new.table c.clear_slots.ensures)
