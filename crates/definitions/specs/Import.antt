-- Request 5/13, the import: "turns a sound version 1 block into version 2". It judges by the rules of version 1, and leaves the block of the
-- same graph, which has true counts.
-- Assumes nothing.
use Rattle.std.specs.Prelude.{List, ℕ}
use Rattle.definitions.specs.Reply.{Reply, where_done}
use Rattle.definitions.specs.Graph.{import_version, graph_of, graph_block, reply_as}

unfoldable pub import_reply : List ℕ → Reply
import_reply graph = reply_as import_version graph

-- what stands in the lent graph at the return
unfoldable pub import_graph : List ℕ → List ℕ
import_graph graph = where_done (import_reply graph) (graph_block (graph_of graph)) graph
