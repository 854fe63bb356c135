-- Behind the head stand the fields, and unused places.
use mathlib.Core.Path.{sym, ◌∙◌}
use native.Mathlib.Omega.{arith}
use Rattle.variadic_layout.specs.Bytes.{number_from}
use Rattle.variadic_layout.proofs.Bytes.{record_head, record_field, record_rest}
use Rattle.variadic_layout.proofs.record_byte.Goals as goal

pub returns-then-b-lt4 : goal.returns-then-b-lt4
returns-then-b-lt4 c = (
  c.head_byte.ensures.0 ∙ sym (record_head c.args.rule.now c.args.part.side.first c.args.part.side.base c.args.part.split (number_from c.args.inputs.now c.args.part.inputs)
      (number_from c.args.numbers.now c.args.part.count) c.args.part.side.tuple c.args.n c.args.c c.args.b
      (omega arith)),
  c.head_byte.ensures.1,
)

pub returns-then-b-field_count : goal.returns-then-b-field_count
returns-then-b-field_count c = (
  c.field_number.ensures.0 ∙ sym (record_field c.args.rule.now c.args.part.side.first c.args.part.side.base c.args.part.split (number_from c.args.inputs.now c.args.part.inputs)
      (number_from c.args.numbers.now c.args.part.count) c.args.part.side.tuple c.args.n c.args.c c.args.b
      (omega arith) (omega (arith, c.field_count.ensures.0))),
  c.field_number.ensures.1,
)

pub returns : goal.returns
returns c = (
  sym (record_rest c.args.rule.now c.args.part.side.first c.args.part.side.base c.args.part.split (number_from c.args.inputs.now c.args.part.inputs)
      (number_from c.args.numbers.now c.args.part.count) c.args.part.side.tuple c.args.n c.args.c c.args.b
      (omega arith) (omega (arith, c.field_count.ensures.0))),
  omega arith,
)
