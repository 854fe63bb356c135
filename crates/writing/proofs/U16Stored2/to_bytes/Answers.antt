use Rattle.definitions.specs.Fields.{u16_bytes}
use Rattle.writing.proofs.U16Stored2.to_bytes.Goals as goal

pub returns : goal.returns
unfolding u16_bytes
returns c = c.to_le_bytes.ensures
