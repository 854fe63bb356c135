-- The loop's invariant: the nodes below m are written.
use Rattle.variadic_terms.specs.Terms.{number_in, WrittenBelow}
use Rattle.variadic_terms.proofs.write_terms.Given as goal

abbrev pub invariant-loop-m : goal.invariant-loop-m
invariant-loop-m l = WrittenBelow l.rule (number_in l.numbers l.count) l.n l.m l.initial.part l.part
