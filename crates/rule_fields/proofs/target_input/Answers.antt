-- An input place stands in its byte of the record.
use mathlib.Core.Path.{◌≡◌, ◌∙◌, sym, ap}
use Prim.Native.Nat.{◌+◌, ◌<◌}
use native.Mathlib.Omega.{arith}
use Rattle.definitions.specs.Fields.{byte_at}
use Rattle.definitions.specs.Graph.{input_limit}
use Rattle.definitions.specs.Rule.{source_count, vertex_at, made}
use Rattle.rule_fields.proofs.Fixed.{target-count-at, target_input_at}
use Rattle.rule_fields.specs.Fixed.{origin_in}
use Rattle.rule_fields.proofs.target_input.Goals as goal

pub overflow_add-i : goal.overflow_add-i
overflow_add-i c = let few : c.args.i < input_limit = omega (arith, c.requires.readable_rule.inputs (source_count c.args.rule.now + c.args.t) (omega arith), target-count-at c.args.rule.now c.args.t c.requires.t_bound) in
    omega (arith, few)

pub returns : goal.returns
returns c = let place : c.vertex_byte.result ≡ byte_at c.args.rule.now (vertex_at (source_count c.args.rule.now + c.args.t) + 4 + c.args.i) =
    c.vertex_byte.ensures.0 ∙ ap (byte_at c.args.rule.now) (omega arith) in
    (ap (origin_in c.args.rule.now) place ∙ sym (target_input_at c.args.rule.now c.args.t c.args.i (made 255) c.requires.t_bound c.requires.i_in_bounds), c.vertex_byte.ensures.1)

pub vertex_byte-requires-clause-i_lt_pattern_bytes : goal.vertex_byte-requires-clause-i_lt_pattern_bytes
vertex_byte-requires-clause-i_lt_pattern_bytes c = let few : c.args.i < input_limit = omega (arith, c.requires.readable_rule.inputs (source_count c.args.rule.now + c.args.t) (omega arith), target-count-at c.args.rule.now c.args.t c.requires.t_bound) in
    omega (arith, few)
