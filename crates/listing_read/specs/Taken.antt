-- A block that a listing was read into, and what becomes of it.
-- Assumes nothing.
use Rattle.std.specs.Prelude.{◌≡◌, List, ℕ}
use Rattle.definitions.specs.Reply.{Reply, where_done}
use Rattle.definitions.specs.Graph.{graph_version, block_as, graph_block}
use Rattle.definitions.specs.Sheet.{Sheet, SheetFits}
use Rattle.definitions.specs.Listing.{graph_in, sheet_reply}

-- this sheet's graph, without counts
pub record BlockOf (s : Sheet) (block : List ℕ) : Type 0 where
  pub fits : SheetFits s
  pub same : block ≡ block_as graph_version (λ k. 0) (graph_in s)

-- some sheet's
abbrev pub SheetBlock : List ℕ → Type 0
SheetBlock block = (s : Sheet) × BlockOf s block

-- the reply and the lent graph are those for the sheet
pub record Taken (block graph : List ℕ) (reply : Reply) (after : List ℕ) : Type 0 where
  pub replied : (s : Sheet) → BlockOf s block → reply ≡ sheet_reply s graph
  pub left : (s : Sheet) → BlockOf s block → after ≡ where_done (sheet_reply s graph) (graph_block (graph_in s)) graph
