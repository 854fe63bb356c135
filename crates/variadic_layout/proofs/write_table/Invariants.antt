-- After m turns the first m bytes of the rows are written.
use Prim.Native.Nat.{◌/◌, ◌%◌}
use lib.ListN.{get_or}
use Rattle.variadic_layout.specs.Bytes.{table_byte}
use Rattle.variadic_layout.specs.Written.{Written}
use Rattle.variadic_layout.proofs.write_table.Given as goal

abbrev pub invariant-loop-m : goal.invariant-loop-m
invariant-loop-m l = Written l.at l.m (λ k. table_byte l.rule l.part.side.first l.n (get_or l.copies (k / 12) 0) (k % 12)) l.initial.made l.made
