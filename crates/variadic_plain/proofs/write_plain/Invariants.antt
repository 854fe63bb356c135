-- The loop's invariant: the bytes passed are those of the definition.
use mathlib.Core.Path.{◌≡◌}
use lib.ListN.{take}
use Rattle.definitions.specs.Lists.{tabulate}
use Rattle.variadic_plain.specs.Plain.{plain_byte}
use Rattle.variadic_plain.proofs.write_plain.Given as goal

abbrev pub invariant-loop-at : goal.invariant-loop-at
invariant-loop-at l = take l.at l.plain ≡ tabulate l.at (plain_byte l.rule)
