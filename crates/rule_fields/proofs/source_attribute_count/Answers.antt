-- The attribute count stands in its byte of the record.
use mathlib.Core.Path.{◌∙◌, sym}
use native.Mathlib.Omega.{arith}
use Rattle.rule_fields.proofs.Fixed.{source-attributes-at}
use Rattle.rule_fields.proofs.source_attribute_count.Goals as goal

pub returns : goal.returns
returns c = (
  c.vertex_byte.ensures.0 ∙ sym (source-attributes-at c.args.rule.now c.args.j c.requires.j_bound),
  omega (arith, c.requires.readable_rule.attributes c.args.j (omega arith)),
)
