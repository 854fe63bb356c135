-- The place and the index of a field say what it names.
use mathlib.Core.Path.{◌≡◌, ap₂, ◌∙◌}
use Prim.Native.Nat.{ℕ}
use Rattle.variadic_order.specs.Sides.{field_place, field_index}
use Rattle.variadic_layout.specs.Bytes.{number_from}
use Rattle.variadic_layout.specs.Parts.{part_place}
use Rattle.variadic_layout.proofs.Bytes.{field_is, index_is, few_index, field_layout}
use Rattle.variadic_layout.proofs.field_number.Goals as goal

pub returns : goal.returns
returns c = let index : c.field_index-index.result
    ≡ field_index c.args.rule.now c.args.part.side.first
    c.args.part.side.base c.args.part.side.tuple c.args.n
    c.args.c c.args.i = c.field_index-index.ensures
    ∙ index_is c.args.rule.now c.args.part.side.first c.args.part.side.base c.args.part.side.tuple c.args.n c.args.c c.args.i in
    let place : c.field_place-place.result
    ≡ field_place c.args.rule.now c.args.part.side.first
    c.args.part.side.base c.args.part.side.tuple c.args.n
    c.args.c c.args.i = c.field_place-place.ensures in (
      c.place_number.ensures.0
          ∙ ap₂ (λ (i p : ℕ). part_place c.args.rule.now c.args.part c.args.inputs.now c.args.numbers.now i p) index place
          ∙ field_is c.args.rule.now c.args.part.side.first c.args.part.side.base c.args.part.split (number_from c.args.inputs.now c.args.part.inputs)
          (number_from c.args.numbers.now c.args.part.count) c.args.part.side.tuple c.args.n c.args.c c.args.i,
      c.place_number.ensures.1,
    )

pub place_number-requires-clause-place_layout : goal.place_number-requires-clause-place_layout
place_number-requires-clause-place_layout c = let place : c.field_place-place.result
    ≡ field_place c.args.rule.now c.args.part.side.first
    c.args.part.side.base c.args.part.side.tuple c.args.n
    c.args.c c.args.i = c.field_place-place.ensures in
    let index : c.field_index-index.result
    ≡ field_index c.args.rule.now c.args.part.side.first
    c.args.part.side.base c.args.part.side.tuple c.args.n
    c.args.c c.args.i = c.field_index-index.ensures
    ∙ index_is c.args.rule.now c.args.part.side.first c.args.part.side.base c.args.part.side.tuple c.args.n c.args.c c.args.i in
    rw (place, index) (field_layout c.requires.part_copy (field_index c.args.rule.now c.args.part.side.first c.args.part.side.base
    c.args.part.side.tuple c.args.n c.args.c c.args.i) c.args.i (few_index c.requires.part_copy c.args.i) c.requires.i_bound)
