-- A copy of what a place names is below the number of copies, since its vertex is below 16.
use mathlib.Core.Path.{sym, ap, ◌∙◌}
use Prim.Native.Nat.{ℕ, ◌+◌, ◌-◌}
use native.Mathlib.Omega.{arith}
use Rattle.variadic_order.proofs.Fields.{copy_below}
use Rattle.variadic_layout.specs.Bytes.{number_from}
use Rattle.variadic_layout.proofs.Bytes.{place_input, place_own}
use Rattle.variadic_layout.proofs.place_number.Goals as goal

pub returns-then-place-part : goal.returns-then-place-part
returns-then-place-part c = (
  c.number_of.ensures.0 ∙ ap (number_from c.args.inputs.now c.args.part.inputs) c.copy_of.ensures
      ∙ sym (place_input c.args.rule.now c.args.part.side.first c.args.part.side.base c.args.part.split (number_from c.args.inputs.now c.args.part.inputs)
      (number_from c.args.numbers.now c.args.part.count) c.args.index c.args.place (omega arith)),
  omega (arith, c.number_of.ensures.1),
)

pub returns : goal.returns
returns c = (
  ap (λ (k : ℕ). c.args.part.split + k)
      (c.number_of-2.ensures.0 ∙ ap (number_from c.args.numbers.now c.args.part.count) c.copy_of-c.ensures)
      ∙ sym (place_own c.args.rule.now c.args.part.side.first c.args.part.side.base c.args.part.split (number_from c.args.inputs.now c.args.part.inputs)
      (number_from c.args.numbers.now c.args.part.count) c.args.index c.args.place (omega arith)),
  omega (arith, c.number_of-2.ensures.1, c.requires.numbered.split),
)

pub number_of-requires-clause-c_in_bounds : goal.number_of-requires-clause-c_in_bounds
number_of-requires-clause-c_in_bounds c = let below = copy_below c.args.rule.now 0 c.args.place c.args.index (c.requires.place_layout.few_inputs (omega arith)) c.requires.place_layout.few in omega (arith, c.copy_of.ensures, below, c.requires.numbered.given.size)

pub number_of-requires-2-clause-c_in_bounds : goal.number_of-requires-2-clause-c_in_bounds
number_of-requires-2-clause-c_in_bounds c = let below = copy_below c.args.rule.now c.args.part.side.first (c.args.place - c.args.part.side.base) c.args.index
    (c.requires.place_layout.few_vertices (omega arith)) c.requires.place_layout.few in omega (arith, c.copy_of-c.ensures, below, c.requires.numbered.own.size)
