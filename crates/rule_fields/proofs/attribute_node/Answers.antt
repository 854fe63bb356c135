-- Its number stands behind the nodes in the made layout, and else in its byte of the record.
use mathlib.Core.Path.{◌≡◌, sym, ap, ◌∙◌}
use Prim.Native.Nat.{◌+◌, ◌*◌}
use native.Mathlib.Omega.{arith}
use Rattle.definitions.specs.Fields.{u16_at}
use Rattle.rule_fields.specs.Fixed.{attribute_place_bytes, table_at, attribute_node}
use Rattle.rule_fields.proofs.attribute_node.Goals as goal

pub returns-then-is_expanded : goal.returns-then-is_expanded
unfolding attribute_node
returns-then-is_expanded c = let block = c.args.rule.now in
    let same : 16 + 16 * (c.source_count.result + c.target_count.result) + 8 * c.fixed_node_count-nodes.result
    + 12 * c.args.v + 2 * c.args.i ≡ table_at block + attribute_place_bytes * c.args.v + 2 * c.args.i =
    omega (arith, c.source_count.ensures.0, c.target_count.ensures.0, c.fixed_node_count-nodes.ensures.0) in
    simp (sym c.is_expanded.ensures ∙ c.if-is_expanded.true) (c.u16_at.ensures.0 ∙ ap (u16_at block) same)

pub returns-else-is_expanded : goal.returns-else-is_expanded
unfolding attribute_node
returns-else-is_expanded c = simp (sym c.is_expanded.ensures ∙ c.if-is_expanded.false) c.byte_at.ensures.0
