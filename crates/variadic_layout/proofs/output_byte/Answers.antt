-- An output has index 0.
use mathlib.Core.Path.{sym, ap, ◌∙◌}
use native.Mathlib.Omega.{arith}
use Rattle.variadic_layout.specs.Bytes.{number_from}
use Rattle.variadic_layout.specs.Parts.{part_place}
use Rattle.variadic_layout.proofs.Bytes.{output_used, output_unused}
use Rattle.variadic_layout.proofs.output_byte.Goals as goal

pub returns-then-i-output_count : goal.returns-then-i-output_count
returns-then-i-output_count c = let input = number_from c.args.inputs.now c.args.part.inputs in
    let own = number_from c.args.numbers.now c.args.part.count in (
      c.place_number.ensures.0 ∙ ap (part_place c.args.rule.now c.args.part c.args.inputs.now c.args.numbers.now 0) c.byte_at.ensures.0
          ∙ sym (output_used c.args.rule.now c.args.part.side.first c.args.part.side.base c.args.part.split input own c.args.at c.args.i
          (omega (arith, c.output_count.ensures.0))),
      c.place_number.ensures.1,
    )

pub returns : goal.returns
returns c = (
  sym (output_unused c.args.rule.now c.args.part.side.first c.args.part.side.base c.args.part.split (number_from c.args.inputs.now c.args.part.inputs)
      (number_from c.args.numbers.now c.args.part.count) c.args.at c.args.i (omega (arith, c.output_count.ensures.0))),
  omega arith,
)
