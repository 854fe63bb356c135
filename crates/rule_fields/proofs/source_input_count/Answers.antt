-- The input count stands in its byte of the record.
use mathlib.Core.Path.{◌∙◌, sym}
use native.Mathlib.Omega.{arith}
use Rattle.rule_fields.proofs.Fixed.{source-count-at}
use Rattle.rule_fields.proofs.source_input_count.Goals as goal

pub returns : goal.returns
returns c = (
  c.vertex_byte.ensures.0 ∙ sym (source-count-at c.args.rule.now c.args.j c.requires.j_bound),
  omega (arith, c.requires.readable_rule.inputs c.args.j (omega arith)),
)
