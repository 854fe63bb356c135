-- The attribute count stands in its byte of the record.
use mathlib.Core.Path.{◌∙◌, sym}
use Prim.Native.Nat.{◌+◌}
use native.Mathlib.Omega.{arith}
use Rattle.definitions.specs.Rule.{source_count}
use Rattle.rule_fields.proofs.Fixed.{target-attributes-at}
use Rattle.rule_fields.proofs.target_attribute_count.Goals as goal

pub returns : goal.returns
returns c = (
  (rw c.target_vertex.ensures at c.vertex_byte.ensures).0 ∙ sym (target-attributes-at c.args.rule.now c.args.t c.requires.t_bound),
  omega (arith, c.requires.readable_rule.attributes (source_count c.args.rule.now + c.args.t) (omega arith)),
)
