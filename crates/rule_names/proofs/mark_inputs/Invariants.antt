-- The loop's invariant: the input places before i are marked.
use Rattle.definitions.specs.Rule.{target_of}
use Rattle.rule_fields.specs.Fixed.{split_in, fixed_of}
use Rattle.rule_names.proofs.Laws.{Marking}
use Rattle.rule_names.proofs.mark_inputs.Given as goal

abbrev pub invariant-loop-i : goal.invariant-loop-i
invariant-loop-i l = Marking (split_in l.rule) (target_of (fixed_of l.rule) l.t).inputs l.i l.initial.used l.used
