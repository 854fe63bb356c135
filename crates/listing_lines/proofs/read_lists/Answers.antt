-- The inputs in brackets, and the attributes in braces; the record has the words of both.
use mathlib.Core.Path.{◌≡◌, refl, sym, ap, subst, ◌∙◌}
use mathlib.Core.List.{List}
use Prim.Native.Nat.{ℕ}
use native.Mathlib.Omega.{arith}
use lib.IntN.{ℤ}
use lib.ListN.{length, take, length-map}
use Rattle.std.specs.declared.result.Result.{Result}
use Rattle.std.specs.declared.result.Result.TheVariants.{Ok, Err}
use Rattle.definitions.specs.Lists.{padded}
use Rattle.definitions.specs.Fields.{word_of}
use Rattle.definitions.specs.Operators.{kind_const, kind_proj}
use Rattle.definitions.specs.Graph.{unused_place}
use Rattle.definitions.specs.Sheet.{Line, Sheet, place_field, attribute_field}
use Rattle.definitions.specs.Listing.{slot_line}
use Rattle.laws.proofs.Padded.{length-padded}
use Rattle.listing.specs.Forms.{Form, go_on}
use Rattle.listing.specs.Grammar.{least_inputs, most_inputs, attribute_count, literal, joined_form, attributes_form, lists_form}
use Rattle.listing.proofs.Reach.{within_high}
use Rattle.listing.proofs.Words.{counts_agree}
use Rattle.listing.proofs.Sizes.{inputs_few, attributes_few}
use Rattle.listing_numbers.specs.declared.Stopped.{Stopped}
use Rattle.listing_numbers.proofs.Stops.{stops}
use Rattle.listing_lists.specs.declared.Numbers.{Numbers}
use Rattle.listing_lists.specs.Lists.{list_limit, NumbersRead}
use Rattle.listing_lines.specs.Lines.{line_with}
use Rattle.listing_lines.proofs.Stopping.{operator_small, inputs_read, listed-length, listed-count, listed-words, listed-places}
use Rattle.listing_lines.proofs.read_lists.Goals as goal

-- what follows the inputs, and the inputs before it
abbrev rest : ℕ → ℕ → (Line → Form Sheet) → List ℤ → Form Sheet
rest kind operator f is = attributes_form (attribute_count kind operator) (λ zs. f (line_with 0 kind operator is zs))

abbrev names : ℕ → ℕ → (Line → Form Sheet) → Form Sheet
names kind operator f = joined_form (least_inputs kind operator) (most_inputs kind operator) place_field 93 (rest kind operator f)

-- the attributes, where the code has their number
attributes_read : (count n : ℕ) (text : List ℕ) (at : ℕ) (q : Result Numbers Stopped) → n ≡ count
    → NumbersRead (attributes_form n) attribute_field n text at q → NumbersRead (attributes_form count) attribute_field count text at q
attributes_read count n text at q same read = subst (λ (k : ℕ). NumbersRead (attributes_form k) attribute_field k text at q) same read

pub returns-in_err-open : goal.returns-in_err-open
unfolding lists_form literal go_on
returns-in_err-open c = rw (stops c.from_residual.result c.in_err-open.field-0.0 c.from_residual.ensures.1)
    (record { goes = λ f. c.in_err-open.ensures.part_read (λ k. names c.args.kind c.args.operator f); next = c.in_err-open.ensures.next_in_bounds })

pub read_joined-requires-clause-at_in_bounds : goal.read_joined-requires-clause-at_in_bounds
read_joined-requires-clause-at_in_bounds c = (
  c.in_ok-open.ensures.next_in_bounds,
  omega (arith, c.shape_of-shape.ensures.0, c.shape_of-shape.ensures.1, (counts_agree c.args.kind c.args.operator).0),
  omega (arith, c.shape_of-shape.ensures.1, inputs_few c.args.kind c.args.operator),
)

pub returns-in_err-inputs : goal.returns-in_err-inputs
unfolding lists_form literal go_on
returns-in_err-inputs c = let e = c.in_err-inputs.field-0.0 in
    let inputs = inputs_read c.place_field.result c.shape_of-shape.result.least c.shape_of-shape.result.most
    (least_inputs c.args.kind c.args.operator) (most_inputs c.args.kind c.args.operator) c.args.text.now
    c.in_ok-open.open.next (Err e) c.place_field.ensures c.shape_of-shape.ensures.0
    c.shape_of-shape.ensures.1 c.in_err-inputs.ensures.holds c.in_err-inputs.ensures.next_in_bounds in
    rw (stops c.from_residual-in_err-inputs.result e c.from_residual-in_err-inputs.ensures.1)
    (record {
      goes = λ f. c.in_ok-open.ensures.part_read (λ k. names c.args.kind c.args.operator f) ∙ inputs.goes (rest c.args.kind c.args.operator f);
      next = inputs.next;
    })

pub read_attributes-requires-clause-count_le_list_limit :
    goal.read_attributes-requires-clause-count_le_list_limit
read_attributes-requires-clause-count_le_list_limit c =
    omega (arith, c.shape_of-shape.ensures.2, attributes_few c.args.kind c.args.operator)

pub returns-in_err-attributes : goal.returns-in_err-attributes
unfolding lists_form literal go_on
returns-in_err-attributes c = let e = c.in_err-attributes.field-0.0 in
    let inputs = inputs_read c.place_field.result c.shape_of-shape.result.least c.shape_of-shape.result.most
    (least_inputs c.args.kind c.args.operator) (most_inputs c.args.kind c.args.operator) c.args.text.now
    c.in_ok-open.open.next (Ok c.in_ok-inputs.inputs) c.place_field.ensures c.shape_of-shape.ensures.0
    c.shape_of-shape.ensures.1 c.in_ok-inputs.ensures.holds c.in_ok-inputs.ensures.next_in_bounds in
    let attributes = attributes_read (attribute_count c.args.kind c.args.operator) c.shape_of-shape.result.attributes c.args.text.now
    c.in_ok-inputs.inputs.next (Err e) c.shape_of-shape.ensures.2 c.in_err-attributes.ensures in
    rw (stops c.from_residual-in_err-attributes.result e c.from_residual-in_err-attributes.ensures.1)
    (record {
      goes = λ f. c.in_ok-open.ensures.part_read (λ k. names c.args.kind c.args.operator f) ∙ inputs.goes (rest c.args.kind c.args.operator f)
          ∙ attributes.goes (λ zs. f (line_with 0 c.args.kind c.args.operator inputs.numbers zs));
      next = attributes.next;
    })

pub record_of-requires-clause-kind_bound : goal.record_of-requires-clause-kind_bound
record_of-requires-clause-kind_bound c = (
  omega (arith, within_high kind_const c.args.kind kind_proj c.requires.kind_proj_value),
  operator_small c.args.kind c.args.operator c.requires.operator_value,
)

pub record_of-requires-clause-inputs_len : goal.record_of-requires-clause-inputs_len
record_of-requires-clause-inputs_len c = let inputs = inputs_read c.place_field.result c.shape_of-shape.result.least c.shape_of-shape.result.most
    (least_inputs c.args.kind c.args.operator) (most_inputs c.args.kind c.args.operator) c.args.text.now
    c.in_ok-open.open.next (Ok c.in_ok-inputs.inputs) c.place_field.ensures c.shape_of-shape.ensures.0
    c.shape_of-shape.ensures.1 c.in_ok-inputs.ensures.holds c.in_ok-inputs.ensures.next_in_bounds in
    let attributes = attributes_read (attribute_count c.args.kind c.args.operator) c.shape_of-shape.result.attributes c.args.text.now
    c.in_ok-inputs.inputs.next (Ok c.in_ok-attributes.attributes) c.shape_of-shape.ensures.2 c.in_ok-attributes.ensures in
    let few = inputs_few c.args.kind c.args.operator in (
      listed-length place_field (most_inputs c.args.kind c.args.operator) c.in_ok-inputs.inputs inputs.numbers inputs.listed few,
      listed-count place_field (most_inputs c.args.kind c.args.operator) c.in_ok-inputs.inputs inputs.numbers inputs.listed few,
      listed-count attribute_field (attribute_count c.args.kind c.args.operator) c.in_ok-attributes.attributes
          attributes.numbers attributes.listed (omega (arith, attributes_few c.args.kind c.args.operator)),
    )

pub record_of-requires-clause-place_words : goal.record_of-requires-clause-place_words
record_of-requires-clause-place_words c = let inputs = inputs_read c.place_field.result c.shape_of-shape.result.least c.shape_of-shape.result.most
    (least_inputs c.args.kind c.args.operator) (most_inputs c.args.kind c.args.operator) c.args.text.now
    c.in_ok-open.open.next (Ok c.in_ok-inputs.inputs) c.place_field.ensures c.shape_of-shape.ensures.0
    c.shape_of-shape.ensures.1 c.in_ok-inputs.ensures.holds c.in_ok-inputs.ensures.next_in_bounds in
    listed-places (most_inputs c.args.kind c.args.operator) c.in_ok-inputs.inputs inputs.numbers inputs.listed

pub returns : goal.returns
unfolding lists_form literal go_on slot_line
returns c = let inputs = inputs_read c.place_field.result c.shape_of-shape.result.least c.shape_of-shape.result.most
    (least_inputs c.args.kind c.args.operator) (most_inputs c.args.kind c.args.operator) c.args.text.now
    c.in_ok-open.open.next (Ok c.in_ok-inputs.inputs) c.place_field.ensures c.shape_of-shape.ensures.0
    c.shape_of-shape.ensures.1 c.in_ok-inputs.ensures.holds c.in_ok-inputs.ensures.next_in_bounds in
    let attributes = attributes_read (attribute_count c.args.kind c.args.operator) c.shape_of-shape.result.attributes c.args.text.now
    c.in_ok-inputs.inputs.next (Ok c.in_ok-attributes.attributes) c.shape_of-shape.ensures.2 c.in_ok-attributes.ensures in
    let is = inputs.listed in
    let zs = attributes.listed in
    let few = inputs_few c.args.kind c.args.operator in
    let words = listed-words place_field (most_inputs c.args.kind c.args.operator) c.in_ok-inputs.inputs inputs.numbers is few in
    let line : Line = line_with 0 c.args.kind c.args.operator inputs.numbers attributes.numbers in
    let r = c.record_of.ensures in
    record {
      line = line;
      slot = refl;
      goes = λ f. c.in_ok-open.ensures.part_read (λ k. names c.args.kind c.args.operator f) ∙ inputs.goes (rest c.args.kind c.args.operator f)
          ∙ attributes.goes (λ zs. f (line_with 0 c.args.kind c.args.operator inputs.numbers zs));
      stands = record {
        kind = r.kind;
        operator = r.operator;
        input_count = r.n ∙ is.count ∙ sym (length-map inputs.numbers word_of);
        attribute_count = r.m ∙ zs.count ∙ sym (length-map attributes.numbers word_of);
        inputs = r.inputs ∙ ap (padded list_limit unused_place) words;
        attributes = r.attributes ∙ zs.words;
      };
      places = (
        ap length r.inputs
            ∙ length-padded unused_place list_limit (take c.in_ok-inputs.inputs.count c.in_ok-inputs.inputs.words)
            (omega (arith, ap length words, length-map inputs.numbers word_of, is.few)),
        ap length r.attributes
            ∙ listed-length attribute_field (attribute_count c.args.kind c.args.operator) c.in_ok-attributes.attributes
            attributes.numbers zs (omega (arith, attributes_few c.args.kind c.args.operator)),
      );
      next = attributes.next;
    }
