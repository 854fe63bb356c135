-- The three parts of a listing, one behind the other; then the header is written in front of the records.
use mathlib.Core.Path.{◌≡◌, refl, sym, ap, ◌∙◌}
use mathlib.Core.List.{List, ◌++◌}
use Prim.Native.Nat.{ℕ, ◌≤◌}
use native.Mathlib.Omega.{arith}
use borrow.Author.Rules.{rules}
use lib.ListN.{length, length-map}
use Rattle.definitions.specs.Lists.{padded}
use Rattle.definitions.specs.Fields.{word_of}
use Rattle.definitions.specs.Graph.{header_bytes, slot_limit, output_limit, unused_place, record_at}
use Rattle.definitions.specs.Sheet.{Sheet, place_field, out_word}
use Rattle.definitions.specs.Listing.{slot_in}
use Rattle.listing.specs.Forms.{Form, go_on}
use Rattle.listing.specs.Grammar.{lines_form, outputs_form, sheet_form}
use Rattle.listing.proofs.Reach.{within_high}
use Rattle.listing_numbers.proofs.Stops.{stops}
use Rattle.listing_lines.proofs.Stopping.{listed-words, listed-places}
use Rattle.listing_slots.specs.Rows.{rows}
use Rattle.listing_sheet.proofs.Block.{headed, sheet-block}
use Rattle.listing_sheet.proofs.read_sheet.Goals as goal

-- what follows the line of the graph
abbrev lined : ℕ → Form Sheet
lined n = lines_form n 0 n (outputs_form n)

pub returns-in_err-graph : goal.returns-in_err-graph
unfolding sheet_form go_on
returns-in_err-graph c = rw (stops c.from_residual.result c.in_err-graph.field-0.0 c.from_residual.ensures.1) (c.in_err-graph.ensures.part_read lined)

pub returns-in_err-lines : goal.returns-in_err-lines
unfolding sheet_form go_on
returns-in_err-lines c = rw (stops c.from_residual-in_err-lines.result c.in_err-lines.field-0.0 c.from_residual-in_err-lines.ensures.1)
    (c.in_ok-graph.ensures.part_read lined ∙ c.in_err-lines.ensures.goes (outputs_form c.in_ok-graph.graph.value))

pub returns-in_err-outputs : goal.returns-in_err-outputs
unfolding outputs_form out_word sheet_form go_on
returns-in_err-outputs c = rw (stops c.from_residual-in_err-outputs.result c.in_err-outputs.field-0.0 c.from_residual-in_err-outputs.ensures.1)
    (c.in_ok-graph.ensures.part_read lined ∙ c.in_ok-lines.ensures.goes (outputs_form c.in_ok-graph.graph.value)
    ∙ c.in_err-outputs.ensures (λ zs. record { size = c.in_ok-graph.graph.value; lines = c.in_ok-lines.ensures.lines; outputs = zs }))

pub output_places-places-requires-clause-place_words : goal.output_places-places-requires-clause-place_words
output_places-places-requires-clause-place_words c = listed-places output_limit c.in_ok-outputs.outputs c.in_ok-outputs.ensures.numbers c.in_ok-outputs.ensures.listed

pub returns : goal.returns
unfolding outputs_form out_word sheet_form go_on
returns c = let zs = c.in_ok-outputs.ensures.numbers in
    let whole : Sheet = record { size = c.in_ok-graph.graph.value; lines = c.in_ok-lines.ensures.lines; outputs = zs } in
    let h = c.in_ok-outputs.ensures.listed in
    let inside : record_at c.in_ok-graph.graph.value ≤ length c.read_lines.new.table = omega (arith, c.read_lines.auto.table, c.requires, within_high 1 c.in_ok-graph.graph.value slot_limit c.in_ok-graph.ensures.slot_limit_value) in
    let long : length c.write_header.new.part ≡ header_bytes = search rules in
    record {
      sheet = whole;
      answer = c.in_ok-graph.ensures.part_read lined ∙ c.in_ok-lines.ensures.goes (outputs_form c.in_ok-graph.graph.value)
          ∙ c.in_ok-outputs.ensures.answer (λ zs. record { size = c.in_ok-graph.graph.value; lines = c.in_ok-lines.ensures.lines; outputs = zs });
      size = refl;
      block = headed (slot_in c.in_ok-lines.ensures.lines) c.in_ok-graph.graph.value c.write_header.new.part c.read_lines.new.table long inside c.in_ok-lines.ensures.holds
          ∙ ap (λ (front : List ℕ). front ++ rows (slot_in c.in_ok-lines.ensures.lines) c.in_ok-graph.graph.value) c.write_header.ensures
          ∙ sheet-block whole c.in_ok-outputs.outputs.count c.output_places-places.result (h.count ∙ sym (length-map zs word_of))
          (c.output_places-places.ensures ∙ ap (padded output_limit unused_place) (listed-words place_field output_limit c.in_ok-outputs.outputs zs h (omega arith)));
    }
