-- The four numbers, one by one, and then the word of them.
use Rattle.match_look.specs.Head.{pattern_head}
use Rattle.match_look.proofs.pattern_head.Goals as goal

pub returns : goal.returns
unfolding pattern_head
returns c = simp (
  c.packed.ensures,
  c.source_attribute_count-attributes.ensures.0,
  c.source_input_count-inputs.ensures.0,
  c.source_operator-operator.ensures.0,
  c.source_kind-kind.ensures.0,
)
