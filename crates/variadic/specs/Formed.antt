-- An expression of a variadic rule's block whose nodes fit: what its expansion needs to be definite.
-- Assumes nothing.
use Rattle.std.specs.Prelude.{Bool, true, false, ◌&&◌}
use Rattle.definitions.specs.Lists.{within}
use Rattle.definitions.specs.Graph.{attribute_limit}
use Rattle.definitions.specs.Attributes.{in_range}
use Rattle.definitions.specs.Rule.{Expression, anything, constant, access, apply, index, sum}

-- any stands nowhere in it, a constant is a 32-bit number, and an access names an attribute place
unfoldable pub formed : Expression → Bool
formed anything = false
formed (constant z) = in_range z
formed (access v b) = within 1 b attribute_limit
formed (apply o x y) = formed x && formed y
formed index = true
formed (sum x) = formed x
