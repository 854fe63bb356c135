-- The numbers behind the word, the line's end, and the text's.
use mathlib.Core.Path.{◌≡◌, subst, ◌∙◌}
use mathlib.Core.List.{List}
use Prim.Native.Nat.{ℕ, ◌≤◌}
use lib.IntN.{ℤ}
use lib.ListN.{length}
use Rattle.std.specs.declared.result.Result.{Result}
use Rattle.std.specs.declared.result.Result.TheVariants.{Ok, Err}
use Rattle.definitions.specs.Graph.{output_limit}
use Rattle.definitions.specs.Numerals.{Field}
use Rattle.definitions.specs.Sheet.{Sheet, place_field, out_word}
use Rattle.listing.specs.Forms.{Form, ended, go_on}
use Rattle.listing.specs.Grammar.{literal, spaced_form}
use Rattle.listing.specs.Parts.{spaced_from}
use Rattle.listing_numbers.specs.declared.Stopped.{Stopped}
use Rattle.listing_numbers.specs.State.{field_of}
use Rattle.listing_numbers.proofs.Stops.{stops}
use Rattle.listing_lists.specs.declared.Numbers.{Numbers}
use Rattle.listing_lists.specs.Lists.{Holds, place_of, NumbersRead}
use Rattle.listing_lists.proofs.Whole.{spaced-read}
use Rattle.listing_sheet.proofs.Ends.{ends_here, more_behind}
use Rattle.listing_sheet.proofs.read_outputs.Goals as goal

-- the numbers, and the line's end
abbrev spaces : (List ℤ → Sheet) → Form Sheet
spaces g = spaced_form 1 output_limit place_field 10 (λ zs. ended (g zs))

-- the numbers that stand there
listed : (text : List ℕ) (field : Field) (next : ℕ) (r : Result Numbers Stopped) → field ≡ place_field
    → Holds field output_limit r (spaced_from 1 output_limit field 10 text next) → place_of r ≤ length text
    → NumbersRead (spaced_form 1 output_limit place_field 10) place_field output_limit text next r
listed text field next r same holds inside =
    spaced-read place_field 10 text 1 output_limit next r
    (subst (λ (F : Field). Holds F output_limit r (spaced_from 1 output_limit F 10 text next)) same holds) inside

pub returns-in_err-word : goal.returns-in_err-word
unfolding literal out_word go_on
returns-in_err-word c = rw (stops c.from_residual.result c.in_err-word.field-0.0 c.from_residual.ensures.1)
    (λ g. c.in_err-word.ensures.part_read (λ k. spaces g))

pub returns-in_err-outputs : goal.returns-in_err-outputs
unfolding literal out_word go_on
returns-in_err-outputs c = let e = c.in_err-outputs.field-0.0 in
    let read = listed c.args.text.now (field_of c.place_field.result) c.in_ok-word.word.next (Err e) c.place_field.ensures c.in_err-outputs.ensures.holds c.in_err-outputs.ensures.next_in_bounds in
    rw (stops c.from_residual-in_err-outputs.result e c.from_residual-in_err-outputs.ensures.1)
    (λ g. c.in_ok-word.ensures.part_read (λ k. spaces g) ∙ read.goes (λ zs. ended (g zs)))

pub returns-then-next-text : goal.returns-then-next-text
unfolding literal out_word go_on
returns-then-next-text c = let read = listed c.args.text.now (field_of c.place_field.result) c.in_ok-word.word.next (Ok c.in_ok-outputs.outputs) c.place_field.ensures c.in_ok-outputs.ensures.holds c.in_ok-outputs.ensures.next_in_bounds in
    λ g. c.in_ok-word.ensures.part_read (λ k. spaces g) ∙ read.goes (λ zs. ended (g zs))
    ∙ more_behind (g read.numbers) c.args.text.now c.in_ok-outputs.outputs.next c.if-next-text.true

pub returns : goal.returns
unfolding literal out_word go_on
returns c = let read = listed c.args.text.now (field_of c.place_field.result) c.in_ok-word.word.next (Ok c.in_ok-outputs.outputs) c.place_field.ensures c.in_ok-outputs.ensures.holds c.in_ok-outputs.ensures.next_in_bounds in
    record {
      numbers = read.numbers;
      answer = λ g. c.in_ok-word.ensures.part_read (λ k. spaces g) ∙ read.goes (λ zs. ended (g zs))
          ∙ ends_here (g read.numbers) c.args.text.now c.in_ok-outputs.outputs.next c.if-next-text.false;
      listed = read.listed;
    }
