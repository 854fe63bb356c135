-- The tests are the mark's.
use native.Mathlib.Omega.{arith}
use Rattle.definitions.specs.Fields.{mark_fits}
use Rattle.fields.proofs.has_mark.Goals as goal

pub returns-then-byte_at-letter : goal.returns-then-byte_at-letter
unfolding mark_fits
returns-then-byte_at-letter c = grind arith

pub returns-else-byte_at-letter : goal.returns-else-byte_at-letter
unfolding mark_fits
returns-else-byte_at-letter c = grind arith
