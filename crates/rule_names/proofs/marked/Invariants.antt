-- The loop's invariant: the inputs of the target vertices below t are marked.
use Rattle.rule_names.proofs.Laws.{VerticesMarking}
use Rattle.rule_fields.specs.Fixed.{split_in, fixed_of}
use Rattle.rule_names.proofs.marked.Given as goal

abbrev pub invariant-loop-t : goal.invariant-loop-t
invariant-loop-t l = VerticesMarking (split_in l.rule) (fixed_of l.rule) l.t l.used
