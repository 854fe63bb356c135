-- A number that is not 0 is one more than the copy's.
use mathlib.Core.Path.{sym}
use native.Mathlib.Omega.{arith}
use Rattle.variadic_layout.proofs.Bytes.{number_none, number_some}
use Rattle.variadic_layout.proofs.number_of.Goals as goal

pub returns-then-number-eq0 : goal.returns-then-number-eq0
returns-then-number-eq0 c = (sym (number_none c.args.numbers.now c.args.count c.args.c (omega arith)), c.requires.numbers.few)

pub returns : goal.returns
returns c = (sym (number_some c.args.numbers.now c.args.count c.args.c (λ e. omega arith)), omega (arith, c.requires.numbers.each c.args.c))
