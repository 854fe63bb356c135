-- The result of a node, by its number.
-- Assumes nothing.
use Rattle.std.specs.Prelude.{List, ℕ, ℤ}
use Rattle.std.proofs.Math.Option.{Option}
use Rattle.definitions.specs.Graph.{graph_of}
use Rattle.definitions.specs.Attributes.{result_of}
use Rattle.definitions.specs.Match.{read_attribute}
use Rattle.rule_fields.specs.Fixed.{expression_in}

-- what node k gives under a map
abbrev pub node_result : List ℕ → List ℕ → List ℕ → ℕ → Option ℤ
node_result graph rule images k = result_of (read_attribute (graph_of graph) images) (expression_in rule k)
