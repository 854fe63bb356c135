-- A record has at most 6 inputs, and n is at most 6.
use mathlib.Core.Path.{sym, ap, ◌∙◌}
use Prim.Native.Nat.{ℕ, ◌*◌, ◌≤◌}
use native.Mathlib.Omega.{arith}
use native.Mathlib.Nat.{mul-le-mul}
use Rattle.definitions.specs.Variadic.{original}
use Rattle.variadic_order.proofs.Fields.{tuple-count, other_count}
use Rattle.variadic_order.proofs.field_count.Goals as goal

pub returns-then-c-side : goal.returns-then-c-side
returns-then-c-side c =
    let few : c.side_byte-places.result ≤ 6 =
    omega (arith, c.side_byte-places.ensures.0, c.requires.layout.inputs (original c.args.c) c.requires.vertex) in
    let product : c.side_byte-places.result * c.args.n ≤ 36 = mul-le-mul few c.requires.few in
    let count = tuple-count c.args.rule.now c.args.side.first c.args.side.base c.args.side.tuple c.args.n c.args.c (omega arith) in
    (ap (λ (k : ℕ). k * c.args.n) c.side_byte-places.ensures.0 ∙ sym count, product)

pub returns-else-c-side : goal.returns-else-c-side
returns-else-c-side c =
    let few : c.side_byte-places.result ≤ 6 =
    omega (arith, c.side_byte-places.ensures.0, c.requires.layout.inputs (original c.args.c) c.requires.vertex) in
    let count = other_count c.args.rule.now c.args.side.first c.args.side.base c.args.side.tuple c.args.n c.args.c (λ e. omega arith) in
    (c.side_byte-places.ensures.0 ∙ sym count, omega (arith, few))
