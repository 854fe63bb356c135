-- A field stands in a place of the record, of which there are at most 6.
use mathlib.Core.Path.{sym, ap, ◌∙◌}
use Prim.Native.Nat.{◌/◌, ◌<◌}
use native.Mathlib.Omega.{arith}
use Rattle.definitions.specs.Fields.{byte_at}
use Rattle.variadic_layout.proofs.Bytes.{place-tuple, place_other, tuple-place, other_place, few_places}
use Rattle.variadic_layout.proofs.field_place.Goals as goal

pub overflow_add-i : goal.overflow_add-i
overflow_add-i c = omega (arith, (let tuple_few : c.args.i / c.args.n < 6 = omega (arith, few_places c.requires.copy_of, tuple-place c.requires.copy_of c.args.i (omega arith) c.requires.i_bound) in tuple_few))

pub returns-then-c-side : goal.returns-then-c-side
returns-then-c-side c = c.side_byte.ensures.0 ∙ ap (byte_at c.args.rule.now) (omega arith)
    ∙ sym (place-tuple c.args.rule.now c.args.side.first c.args.side.base c.args.side.tuple c.args.n c.args.c c.args.i (omega arith))

pub overflow_add-i-2 : goal.overflow_add-i-2
overflow_add-i-2 c = omega (arith, (let other_few : c.args.i < 6 = omega (arith, few_places c.requires.copy_of, other_place c.requires.copy_of c.args.i (λ e. omega arith) c.requires.i_bound) in other_few))

pub returns : goal.returns
returns c = c.side_byte-2.ensures.0 ∙ ap (byte_at c.args.rule.now) (omega arith)
    ∙ sym (place_other c.args.rule.now c.args.side.first c.args.side.base c.args.side.tuple c.args.n c.args.c c.args.i (λ e. omega arith))

pub side_byte-requires-clause-i_lt_pattern_bytes : goal.side_byte-requires-clause-i_lt_pattern_bytes
side_byte-requires-clause-i_lt_pattern_bytes c = omega (arith, (let tuple_few : c.args.i / c.args.n < 6 = omega (arith, few_places c.requires.copy_of, tuple-place c.requires.copy_of c.args.i (omega arith) c.requires.i_bound) in tuple_few))

pub side_byte-requires-2-clause-i_lt_pattern_bytes : goal.side_byte-requires-2-clause-i_lt_pattern_bytes
side_byte-requires-2-clause-i_lt_pattern_bytes c = omega (arith, (let other_few : c.args.i < 6 = omega (arith, few_places c.requires.copy_of, other_place c.requires.copy_of c.args.i (λ e. omega arith) c.requires.i_bound) in other_few))
