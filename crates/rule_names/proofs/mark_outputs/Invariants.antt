-- The loop's invariant: the output places before i are marked.
use Rattle.rule_fields.specs.Fixed.{split_in, fixed_of}
use Rattle.rule_names.proofs.Laws.{Marking}
use Rattle.rule_names.proofs.mark_outputs.Given as goal

abbrev pub invariant-loop-i : goal.invariant-loop-i
invariant-loop-i l = Marking (split_in l.rule) (fixed_of l.rule).target_outputs l.i l.initial.used l.used
