-- The byte of the version is compared.
use mathlib.Core.Path.{ap}
use Prim.Native.Nat.{ℕ}
use lib.Dec.{eqb}
use Rattle.rule_fields.specs.Fixed.{expanded_version, is_expanded}
use Rattle.rule_fields.proofs.is_expanded.Goals as goal

pub returns : goal.returns
unfolding is_expanded
returns c = ap (λ (b : ℕ). eqb b expanded_version) c.byte_at.ensures.0
