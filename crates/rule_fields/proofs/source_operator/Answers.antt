-- The operator is the second byte of the record.
use mathlib.Core.Path.{◌∙◌, sym}
use Rattle.rule_fields.proofs.Fixed.{source-operator-at}
use Rattle.rule_fields.proofs.source_operator.Goals as goal

pub returns : goal.returns
returns c = let e = c.vertex_byte.ensures in
    (e.0 ∙ sym (source-operator-at c.args.rule.now c.args.j c.requires.j_bound), e.1)
