-- `graph`, a space, a number from 1 to 512, and the end of the line.
use mathlib.Core.Path.{◌≡◌, sym, ap, ◌∙◌}
use mathlib.Core.List.{List}
use Prim.Native.Nat.{ℕ}
use lib.ListN.{drop}
use Rattle.definitions.specs.Numerals.{Field}
use Rattle.definitions.specs.Sheet.{Sheet, size_field, opening}
use Rattle.listing.specs.Typing.{nothing, Got, stopped, got}
use Rattle.listing.specs.Forms.{Form, byte, number, answer_from, go_on}
use Rattle.listing.specs.Grammar.{magnitude, literal}
use Rattle.listing.specs.Parts.{PartRead}
use Rattle.listing_numbers.proofs.Stops.{stops}
use Rattle.listing_sheet.proofs.read_size.Goals as goal

-- the number, and the line's end
abbrev sized : (ℕ → Form Sheet) → Form Sheet
sized f = number size_field nothing (λ z. byte 10 (f (magnitude z)))

-- the number, by the code's field
numbered : (field : Field) (text : List ℕ) (at : ℕ) (g : Got ℕ) → field ≡ size_field
    → PartRead (λ f. number field nothing (λ z. f (magnitude z))) text at g → (f : ℕ → Form Sheet)
    → answer_from (sized f) at (drop at text) ≡ go_on (λ (k : ℕ). byte 10 (f k)) text g
numbered field text at g same read f =
    ap (λ (F : Field). answer_from (number F nothing (λ z. byte 10 (f (magnitude z)))) at (drop at text)) (sym same) ∙ read (λ k. byte 10 (f k))

pub returns-in_err-opening-clause-part_read : goal.returns-in_err-opening-clause-part_read
unfolding opening literal go_on
returns-in_err-opening-clause-part_read c = λ f. rw (stops c.from_residual.result c.in_err-opening.field-0.0 c.from_residual.ensures.1)
    (c.in_err-opening.ensures.part_read (λ n. sized f))

pub returns-in_err-size-clause-part_read : goal.returns-in_err-size-clause-part_read
unfolding opening literal go_on
returns-in_err-size-clause-part_read c = λ f. rw (stops c.from_residual-in_err-size.result c.in_err-size.field-0.0 c.from_residual-in_err-size.ensures.1)
    (c.in_ok-opening.ensures.part_read (λ n. sized f)
    ∙ numbered _ c.args.text.now c.in_ok-opening.opening.next (stopped c.in_err-size.field-0.0.at) c.size_field.ensures c.in_err-size.ensures.part_read f)

pub returns-in_err-end-clause-part_read : goal.returns-in_err-end-clause-part_read
unfolding opening literal go_on
returns-in_err-end-clause-part_read c = let n = c.in_ok-size.size in
    λ f. rw (stops c.from_residual-in_err-end.result c.in_err-end.field-0.0 c.from_residual-in_err-end.ensures.1)
    (c.in_ok-opening.ensures.part_read (λ n. sized f)
    ∙ numbered _ c.args.text.now c.in_ok-opening.opening.next (got n.value n.next) c.size_field.ensures c.in_ok-size.ensures.part_read f
    ∙ c.in_err-end.ensures.part_read (λ k. f n.value))

pub returns-clause-part_read : goal.returns-clause-part_read
unfolding literal opening go_on
returns-clause-part_read c = let n = c.in_ok-size.size in
    λ f. c.in_ok-opening.ensures.part_read (λ n. sized f)
    ∙ numbered _ c.args.text.now c.in_ok-opening.opening.next (got n.value n.next) c.size_field.ensures c.in_ok-size.ensures.part_read f
    ∙ c.in_ok-end.ensures.part_read (λ k. f n.value)
