-- The slots that the line leaves out are emptied, and its own is written behind them.
use mathlib.Core.Path.{◌≡◌, refl, sym, ap, subst, ◌∙◌}
use mathlib.Core.Bool.{true}
use mathlib.Core.List.{List}
use Prim.Native.Nat.{ℕ, ◌+◌, ◌-◌, ◌≤◌, ◌<◌}
use native.Mathlib.Omega.{arith}
use lib.ListN.{length, drop, replicate}
use Rattle.definitions.specs.Lists.{within}
use Rattle.definitions.specs.Graph.{tail_bytes, record_at}
use Rattle.definitions.specs.Numerals.{Field}
use Rattle.definitions.specs.Sheet.{Line, Sheet, slot_field}
use Rattle.definitions.specs.Listing.{slot_line}
use Rattle.graph_records.proofs.Laws.{stands_bytes, record_length}
use Rattle.graph_slots.proofs.Laws.{written-length}
use Rattle.listing.specs.Typing.{nothing, Got, stopped, got}
use Rattle.listing.specs.Forms.{Form, number, answer_from, go_on}
use Rattle.listing.specs.Grammar.{magnitude, line_form}
use Rattle.listing.specs.Parts.{PartRead}
use Rattle.listing.proofs.Reach.{within_low, within_high}
use Rattle.listing_numbers.proofs.Stops.{stops}
use Rattle.listing_slots.specs.Rows.{row}
use Rattle.listing_slots.specs.Read.{slot_form}
use Rattle.listing_slots.proofs.Laws.{holds_more}
use Rattle.listing_slots.proofs.read_slot.Goals as goal

-- the slot's number, by the code's field
numbered : (field : Field) (from size : ℕ) (text : List ℕ) (at : ℕ) (g : Got ℕ) → field ≡ slot_field from size
    → PartRead (λ f. number field nothing (λ z. f (magnitude z))) text at g → (f : Line → Form Sheet)
    → answer_from (slot_form from size f) at (drop at text) ≡ go_on (λ (k : ℕ). line_form k f) text g
numbered field from size text at g same read f =
    ap (λ (F : Field). answer_from (number F nothing (λ z. line_form (magnitude z) f)) at (drop at text)) (sym same) ∙ read (λ k. line_form k f)

pub returns-in_err-number : goal.returns-in_err-number
unfolding go_on
returns-in_err-number c = let e = c.in_err-number.field-0.0 in
    rw (stops c.from_residual.result e c.from_residual.ensures.1) (
      record {
        goes = λ f. numbered _ c.args.from c.args.size c.args.text.now c.args.at (stopped e.at) c.slot_field.ensures c.in_err-number.ensures.part_read f;
        next = c.in_err-number.ensures.next_in_bounds;
      },
      refl,
    )

pub returns-in_err-line : goal.returns-in_err-line
unfolding go_on
returns-in_err-line c = let e = c.in_err-line.field-0.0 in
    let line = c.in_err-line.ensures c.in_ok-number.number.value in
    rw (stops c.from_residual-in_err-line.result e c.from_residual-in_err-line.ensures.1) (
      record {
        goes = λ f. numbered _ c.args.from c.args.size c.args.text.now c.args.at (got c.in_ok-number.number.value c.in_ok-number.number.next) c.slot_field.ensures c.in_ok-number.ensures.part_read f ∙ line.goes f;
        next = line.next;
      },
      refl,
    )

pub returns : goal.returns
unfolding row go_on
returns c = let k = c.in_ok-number.number.value in
    let line = c.in_ok-line.ensures k in
    let h : within c.args.from k (c.args.size - 1) ≡ true =
    subst (λ (F : Field). within F.low k F.high ≡ true) c.slot_field.ensures c.in_ok-number.ensures.high_value in
    let low : c.args.from ≤ k = within_low c.args.from k (c.args.size - 1) h in
    let high : k < c.args.size = omega (arith, within_high c.args.from k (c.args.size - 1) h, c.requires.from_lt_size.0) in
    let p = line.places in
    let fits : record_at (k + 1) ≤ length c.clear_slots.new.table =
    omega (arith, high, c.requires.from_lt_size.1, c.requires.table_len, c.clear_slots.ensures.size) in
    record {
      line = line.line;
      goes = λ f. numbered _ c.args.from c.args.size c.args.text.now c.args.at (got c.in_ok-number.number.value c.in_ok-number.number.next) c.slot_field.ensures c.in_ok-number.ensures.part_read f ∙ line.goes f;
      next = line.next;
      kept = written-length c.write_slot.ensures fits (record_length (replicate tail_bytes 0) c.in_ok-line.line.record refl p.0 p.1) ∙ c.clear_slots.ensures.size;
      slot = (line.slot, low, high);
      holds = λ slots begun empty here.
          holds_more slots k _ c.clear_slots.new.table c.write_slot.new.graph c.write_slot.ensures
          (stands_bytes (replicate tail_bytes 0) c.in_ok-line.line.record (slot_line line.line) line.stands ∙ ap row (sym here)) (omega arith)
          (c.clear_slots.ensures.holds slots empty begun);
    }
