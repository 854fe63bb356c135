-- A source output stands in its byte of the header.
use mathlib.Core.Path.{◌∙◌, sym}
use native.Mathlib.Omega.{arith}
use Rattle.rule_fields.proofs.Fixed.{source-output_of}
use Rattle.rule_fields.proofs.source_output.Goals as goal

pub returns : goal.returns
returns c = (c.byte_at.ensures.0 ∙ sym (source-output_of c.args.rule.now c.args.i 255 c.requires.i_bound), omega arith)
