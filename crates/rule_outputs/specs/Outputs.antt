-- Names for the tests of a source output that the definition writes out.
-- Assumes nothing.
use Rattle.std.specs.Prelude.{Bool, not, ◌&&◌, ℕ}
use Rattle.definitions.specs.Lists.{within, any, member}
use Rattle.definitions.specs.Operators.{kind_call, kind_proj}
use Rattle.definitions.specs.Rule.{Rule, source_of}

-- some source vertex reads o
abbrev pub is_read : Rule → ℕ → Bool
is_read r o = any (λ p. member o p.inputs) r.source

-- source vertex o may be an output: of kind 3, 4 or 5, and read by no source vertex
abbrev pub may_be_output : Rule → ℕ → Bool
may_be_output r o = within kind_call (source_of r o).kind kind_proj && not (is_read r o)
