-- The kind is the first byte of the record.
use mathlib.Core.Path.{◌∙◌, sym}
use native.Mathlib.Nat.{add-zero}
use Rattle.rule_fields.proofs.Fixed.{target_kind_at}
use Rattle.rule_fields.proofs.target_kind.Goals as goal

pub returns : goal.returns
returns c = let e = (rw c.target_vertex.ensures at c.vertex_byte.ensures) in
    (rw add-zero at e.0 ∙ sym (target_kind_at c.args.rule.now c.args.t c.requires.t_bound), e.1)
