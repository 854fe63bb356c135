-- The four numbers, one by one, and then the word of them.
use Rattle.match_look.specs.Head.{slot_head}
use Rattle.match_look.proofs.slot_head.Goals as goal

pub returns : goal.returns
unfolding slot_head
returns c = simp (
  c.packed.ensures,
  c.attribute_count-attributes.ensures.0,
  c.input_count-inputs.ensures.0,
  c.operator_of-operator.ensures.0,
  c.kind_of-kind.ensures.0,
)
