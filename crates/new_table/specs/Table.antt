-- The table that is written.
-- Assumes nothing.
use Rattle.std.specs.Prelude.{List, ℕ}
use Rattle.definitions.specs.Graph.{Graph, graph_of}
use Rattle.definitions.specs.Rewriting.{new_graph}
use Rattle.rule_fields.specs.Fixed.{fixed_of}
use Rattle.new_vertices.specs.Slots.{values_of, fit_results}

-- the table that a rewriting of the block would leave
unfoldable pub new_table : List ℕ → List ℕ → List ℕ → Graph
new_table graph rule images = new_graph (graph_of graph) (fixed_of rule) images (values_of (fit_results graph rule images))
