-- The kind is the first byte of the record.
use mathlib.Core.Path.{◌∙◌, sym}
use native.Mathlib.Nat.{add-zero}
use Rattle.rule_fields.proofs.Fixed.{source_kind_at}
use Rattle.rule_fields.proofs.source_kind.Goals as goal

pub returns : goal.returns
returns c = let e = c.vertex_byte.ensures in
    (rw add-zero at e.0 ∙ sym (source_kind_at c.args.rule.now c.args.j c.requires.j_bound), e.1)
