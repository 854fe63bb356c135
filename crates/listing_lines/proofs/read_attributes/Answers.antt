-- A space and a brace, the numbers, a brace and the end of the line.
use mathlib.Core.Path.{◌≡◌, subst, ◌∙◌}
use mathlib.Core.List.{List}
use Prim.Native.Nat.{ℕ, ◌≤◌}
use lib.IntN.{ℤ}
use lib.ListN.{length}
use Rattle.std.specs.declared.result.Result.{Result}
use Rattle.std.specs.declared.result.Result.TheVariants.{Ok, Err}
use Rattle.definitions.specs.Numerals.{Field}
use Rattle.definitions.specs.Sheet.{Sheet, attribute_field}
use Rattle.listing.specs.Forms.{Form, byte, go_on}
use Rattle.listing.specs.Grammar.{literal, joined_form, attributes_form}
use Rattle.listing.specs.Parts.{joined_from}
use Rattle.listing_numbers.specs.declared.Stopped.{Stopped}
use Rattle.listing_numbers.specs.State.{field_of}
use Rattle.listing_numbers.proofs.Stops.{stops}
use Rattle.listing_lists.specs.declared.Numbers.{Numbers}
use Rattle.listing_lists.specs.Lists.{Holds, place_of, NumbersRead}
use Rattle.listing_lists.proofs.Whole.{joined-read}
use Rattle.listing_lines.proofs.read_attributes.Goals as goal

-- the attributes, and the line's end
abbrev numbers : ℕ → (List ℤ → Form Sheet) → Form Sheet
numbers count f = joined_form count count attribute_field 125 (λ zs. byte 10 (f zs))

-- the attributes that stand there
listed : (text : List ℕ) (count : ℕ) (field : Field) (next : ℕ) (r : Result Numbers Stopped) → field ≡ attribute_field
    → Holds field count r (joined_from count count field 125 text next) → place_of r ≤ length text
    → NumbersRead (joined_form count count attribute_field 125) attribute_field count text next r
listed text count field next r same holds inside =
    joined-read attribute_field 125 text count count next r
    (subst (λ (F : Field). Holds F count r (joined_from count count F 125 text next)) same holds) inside

pub returns-in_err-open : goal.returns-in_err-open
unfolding attributes_form literal go_on
returns-in_err-open c = rw (stops c.from_residual.result c.in_err-open.field-0.0 c.from_residual.ensures.1)
    (record { goes = λ f. c.in_err-open.ensures.part_read (λ k. numbers c.args.count f); next = c.in_err-open.ensures.next_in_bounds })

pub returns-in_err-numbers : goal.returns-in_err-numbers
unfolding attributes_form literal go_on
returns-in_err-numbers c = let e = c.in_err-numbers.field-0.0 in
    let read = listed c.args.text.now c.args.count (field_of c.attribute_field.result) c.in_ok-open.open.next (Err e) c.attribute_field.ensures
    c.in_err-numbers.ensures.holds c.in_err-numbers.ensures.next_in_bounds in
    rw (stops c.from_residual-in_err-numbers.result e c.from_residual-in_err-numbers.ensures.1)
    (record { goes = λ f. c.in_ok-open.ensures.part_read (λ k. numbers c.args.count f) ∙ read.goes (λ zs. byte 10 (f zs)); next = read.next })

pub returns-in_err-end : goal.returns-in_err-end
unfolding attributes_form literal go_on
returns-in_err-end c = let e = c.in_err-end.field-0.0 in
    let read = listed c.args.text.now c.args.count (field_of c.attribute_field.result) c.in_ok-open.open.next (Ok c.in_ok-numbers.numbers) c.attribute_field.ensures
    c.in_ok-numbers.ensures.holds c.in_ok-numbers.ensures.next_in_bounds in
    rw (stops c.from_residual-in_err-end.result e c.from_residual-in_err-end.ensures.1)
    (record {
      goes = λ f. c.in_ok-open.ensures.part_read (λ k. numbers c.args.count f) ∙ read.goes (λ zs. byte 10 (f zs)) ∙ c.in_err-end.ensures.part_read (λ k. f read.numbers);
      next = c.in_err-end.ensures.next_in_bounds;
    })

pub returns : goal.returns
unfolding attributes_form literal go_on
returns c = let read = listed c.args.text.now c.args.count (field_of c.attribute_field.result) c.in_ok-open.open.next (Ok c.in_ok-numbers.numbers) c.attribute_field.ensures
    c.in_ok-numbers.ensures.holds c.in_ok-numbers.ensures.next_in_bounds in
    let h = read.listed in
    record {
      numbers = read.numbers;
      goes = λ f. c.in_ok-open.ensures.part_read (λ k. numbers c.args.count f) ∙ read.goes (λ zs. byte 10 (f zs)) ∙ c.in_ok-end.ensures.part_read (λ k. f read.numbers);
      listed = record { count = h.count; words = h.words; few = h.few; fits = h.fits };
      next = c.in_ok-end.ensures.next_in_bounds;
    }
