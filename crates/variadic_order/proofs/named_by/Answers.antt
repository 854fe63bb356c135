-- A place that names a vertex of the side names a lower one, so its copies are copies of a lower one.
use mathlib.Core.Path.{◌≡◌, ap, ◌∙◌}
use Prim.Native.Nat.{◌+◌, ◌<◌}
use native.Mathlib.Omega.{arith}
use Rattle.definitions.specs.Fields.{byte_at}
use Rattle.variadic_order.specs.Sides.{place_of}
use Rattle.variadic_order.proofs.Fields.{names_none, names_one}
use Rattle.variadic_order.proofs.named_by.Goals as goal

pub returns-then-place-side : goal.returns-then-place-side
returns-then-place-side c =
    let p = place_of c.args.rule.now c.args.side.first c.args.u c.args.i in
    let place : c.side_byte-place.result ≡ p = c.side_byte-place.ensures.0 ∙ ap (byte_at c.args.rule.now) (omega arith) in
    names_none c.args.rule.now c.args.side.first c.args.side.base c.args.index p (omega (arith, place))

pub copy_of-requires-clause-pattern_bytes_in_bounds : goal.copy_of-requires-clause-pattern_bytes_in_bounds
copy_of-requires-clause-pattern_bytes_in_bounds c =
    let place : c.side_byte-place.result ≡ place_of c.args.rule.now c.args.side.first c.args.u c.args.i =
    c.side_byte-place.ensures.0 ∙ ap (byte_at c.args.rule.now) (omega arith) in
    let lower : c.side_byte-place.result < c.args.side.base + c.args.u =
    omega (arith, place, c.requires.layout.lower c.args.u c.args.i c.requires.vertex c.requires.place) in
    omega arith

pub returns-else-place-side : goal.returns-else-place-side
returns-else-place-side c =
    let p = place_of c.args.rule.now c.args.side.first c.args.u c.args.i in
    let place : c.side_byte-place.result ≡ p = c.side_byte-place.ensures.0 ∙ ap (byte_at c.args.rule.now) (omega arith) in
    let lower : c.side_byte-place.result < c.args.side.base + c.args.u =
    omega (arith, place, c.requires.layout.lower c.args.u c.args.i c.requires.vertex c.requires.place) in
    names_one c.args.rule.now c.args.side.first c.args.side.base c.args.index p c.args.u c.copy_of.result
    (omega (arith, place)) (omega (arith, place)) (omega arith) c.requires.few (rw (← place) c.copy_of.ensures)
