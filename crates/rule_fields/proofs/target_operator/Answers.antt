-- The operator is the second byte of the record.
use mathlib.Core.Path.{◌∙◌, sym}
use Rattle.rule_fields.proofs.Fixed.{target-operator-at}
use Rattle.rule_fields.proofs.target_operator.Goals as goal

pub returns : goal.returns
returns c = let e = (rw c.target_vertex.ensures at c.vertex_byte.ensures) in
    (e.0 ∙ sym (target-operator-at c.args.rule.now c.args.t c.requires.t_bound), e.1)
