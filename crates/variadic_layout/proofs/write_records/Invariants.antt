-- After m turns the first m bytes of the records are written.
use Prim.Native.Nat.{◌/◌, ◌%◌}
use lib.ListN.{get_or}
use Rattle.variadic_layout.specs.Parts.{part_record}
use Rattle.variadic_layout.specs.Written.{Written}
use Rattle.variadic_layout.proofs.write_records.Given as goal

abbrev pub invariant-loop-m : goal.invariant-loop-m
invariant-loop-m l = Written l.at l.m (λ k. part_record l.rule l.part l.inputs l.numbers l.n (get_or l.copies (k / 16) 0) (k % 16)) l.initial.made l.made
