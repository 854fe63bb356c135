use Rattle.definitions.specs.Fields.{u32_bytes}
use Rattle.writing.proofs.U32Stored4.to_bytes.Goals as goal

pub returns : goal.returns
unfolding u32_bytes
returns c = c.to_le_bytes.ensures
