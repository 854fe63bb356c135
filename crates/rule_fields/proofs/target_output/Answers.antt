-- A target output stands in its byte of the header.
use mathlib.Core.Path.{◌∙◌, sym, ap}
use native.Mathlib.Omega.{arith}
use Rattle.definitions.specs.Rule.{made}
use Rattle.rule_fields.proofs.Fixed.{target-output_of}
use Rattle.rule_fields.specs.Fixed.{origin_in}
use Rattle.rule_fields.proofs.target_output.Goals as goal

pub returns : goal.returns
returns c = (ap (origin_in c.args.rule.now) c.byte_at.ensures.0 ∙ sym (target-output_of c.args.rule.now c.args.i (made 255) c.requires.i_bound), omega arith)
