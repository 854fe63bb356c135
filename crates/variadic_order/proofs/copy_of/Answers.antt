-- The kind says whether the vertex is a template.
use mathlib.Core.Path.{◌≡◌, sym, ap, ◌∙◌}
use Prim.Native.Nat.{◌+◌}
use native.Mathlib.Omega.{arith}
use Rattle.definitions.specs.Fields.{byte_at}
use Rattle.definitions.specs.Rule.{vertex_at}
use Rattle.variadic_order.proofs.Fields.{copy_shared, copy_template}
use Rattle.variadic_order.proofs.copy_of.Goals as goal

pub returns-then-side_byte-lt-TEMPLATE_MARK : goal.returns-then-side_byte-lt-TEMPLATE_MARK
returns-then-side_byte-lt-TEMPLATE_MARK c =
    let kind : c.side_byte.result ≡ byte_at c.args.rule.now (vertex_at (c.args.first + c.args.u)) =
    c.side_byte.ensures.0 ∙ ap (byte_at c.args.rule.now) (omega arith) in
    sym (copy_shared c.args.rule.now c.args.first c.args.u c.args.index (omega (arith, kind)))

pub returns-else-side_byte-lt-TEMPLATE_MARK : goal.returns-else-side_byte-lt-TEMPLATE_MARK
returns-else-side_byte-lt-TEMPLATE_MARK c =
    let kind : c.side_byte.result ≡ byte_at c.args.rule.now (vertex_at (c.args.first + c.args.u)) =
    c.side_byte.ensures.0 ∙ ap (byte_at c.args.rule.now) (omega arith) in
    sym (copy_template c.args.rule.now c.args.first c.args.u c.args.index (omega (arith, kind)))
