-- What is counted in the block is the length of the rule's list.
use mathlib.Core.Path.{◌≡◌}
use Prim.Native.Nat.{◌+◌, ◌-◌}
use native.Mathlib.Omega.{arith}
use Rattle.definitions.specs.Rule.{source_count}
use Rattle.rule_fields.proofs.Fixed.{source-attributes-at, target-attributes-at}
use Rattle.variadic_sound.proofs.attribute_top.Goals as goal

pub source_attribute-node-requires-clause-i_in_bounds : goal.source_attribute-node-requires-clause-i_in_bounds
source_attribute-node-requires-clause-i_in_bounds c = omega (arith, source-attributes-at c.args.rule.now c.args.v (omega arith), c.requires.i_bound)

pub target_attribute-node-requires-clause-i_in_bounds : goal.target_attribute-node-requires-clause-i_in_bounds
target_attribute-node-requires-clause-i_in_bounds c =
    let t = c.args.v - c.source_count-sources.result in
    let same : source_count c.args.rule.now + t ≡ c.args.v = omega arith in
    omega (arith, rw same at (target-attributes-at c.args.rule.now t (omega arith)), c.requires.i_bound)
