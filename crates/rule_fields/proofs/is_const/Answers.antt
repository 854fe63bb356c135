-- The kind decides.
use Rattle.definitions.specs.Match.{is_const}
use Rattle.rule_fields.proofs.is_const.Goals as goal

pub returns : goal.returns
unfolding is_const
returns c = rw (← c.source_kind.ensures.0)
