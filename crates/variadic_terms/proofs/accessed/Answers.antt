-- A copy is that of the side that begins with record 0; there are 16 source vertices at most, so that the table has space for each copy.
use mathlib.Core.Path.{◌≡◌, ap, ◌∙◌}
use Prim.Native.Nat.{ℕ, ◌+◌, ◌≤◌}
use native.Mathlib.Omega.{arith}
use Rattle.definitions.specs.Rule.{side_limit, source_count}
use Rattle.definitions.specs.Variadic.{source_copy}
use Rattle.definitions.specs.VariadicBlock.{variadic_of}
use Rattle.variadic_order.specs.Sides.{side_copy}
use Rattle.variadic_order.proofs.Fields.{copy_below}
use Rattle.variadic_terms.specs.Terms.{number_in}
use Rattle.variadic_terms.proofs.Fits.{narrow_sources}
use Rattle.variadic_terms.proofs.accessed.Goals as goal

pub returns : goal.returns
unfolding side_copy source_copy variadic_of
returns c = λ (n : ℕ).
    let first : 0 + c.args.v ≡ c.args.v = omega arith in
    c.copy_number.ensures ∙ ap (number_in c.args.numbers.now c.args.count) (rw first at c.copy_of.ensures)

pub copy_number-requires-clause-c_lt_copy_limit : goal.copy_number-requires-clause-c_lt_copy_limit
copy_number-requires-clause-c_lt_copy_limit c =
    let few : source_count c.args.rule.now ≤ side_limit = narrow_sources c.args.rule.now c.requires.expandable.lent c.requires.expandable.layout in
    omega (arith, c.copy_of.ensures, copy_below c.args.rule.now 0 c.args.v c.args.i (omega (arith, few)) c.requires.i_le_field_limit)
