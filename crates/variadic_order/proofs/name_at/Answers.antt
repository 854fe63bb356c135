-- In the named Tuple, field i is input place i / n at the index i % n + 1; in another copy it is place i at the copy's own index.
use Prim.Native.Nat.{◌*◌, ◌%◌, ◌<◌}
use native.Mathlib.Numerals.{add-one}
use native.Mathlib.Nat.{mod-lt, div-lt_iff_lt-mul}
use native.Mathlib.Omega.{arith}
use Rattle.definitions.specs.Variadic.{original}
use Rattle.variadic_order.specs.Sides.{place_count}
use Rattle.variadic_order.proofs.Fields.{tuple-count, tuple-names, other_count, other_names_lem}
use Rattle.variadic_order.proofs.name_at.Goals as goal

pub named_by-requires : goal.named_by-requires
named_by-requires c =
    let places = place_count c.args.rule.now c.args.side.first (original c.args.c) in
    let index : c.args.i % c.args.n < c.args.n = mod-lt c.args.i c.requires.side_copy.some in
    let count = tuple-count c.args.rule.now c.args.side.first c.args.side.base c.args.side.tuple c.args.n c.args.c (omega arith) in
    let within : c.args.i < places * c.args.n = rw count at c.requires.i_bound in
    record {
      vertices = c.requires.side_copy.vertices;
      layout = c.requires.side_copy.layout;
      vertex = c.requires.side_copy.vertex;
      place = (div-lt_iff_lt-mul c.requires.side_copy.some).1 within;
      few = omega (arith, index, c.requires.side_copy.few);
    }

pub returns-then-c-side : goal.returns-then-c-side
returns-then-c-side c = rw (
  tuple-names c.args.rule.now c.args.side.first c.args.side.base c.args.side.tuple c.args.n c.args.c (omega arith) c.args.i,
  ← add-one (c.args.i % c.args.n),
) c.named_by.ensures

pub named_by-requires-else-c-side : goal.named_by-requires-else-c-side
named_by-requires-else-c-side c =
    let count = other_count c.args.rule.now c.args.side.first c.args.side.base c.args.side.tuple c.args.n c.args.c (λ e. omega arith) in
    record {
      vertices = c.requires.side_copy.vertices;
      layout = c.requires.side_copy.layout;
      vertex = c.requires.side_copy.vertex;
      place = rw count at c.requires.i_bound;
      few = omega (arith, c.requires.side_copy.below);
    }

pub returns-else-c-side : goal.returns-else-c-side
returns-else-c-side c =
    rw (other_names_lem c.args.rule.now c.args.side.first c.args.side.base c.args.side.tuple c.args.n c.args.c (λ e. omega arith) c.args.i)
    c.named_by-else-c-side.ensures
