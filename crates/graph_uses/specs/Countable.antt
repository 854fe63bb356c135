-- What counting the uses of a graph's slots asks: of the block, and of the array of counts before each part of it.
-- Assumes nothing.
use Rattle.std.specs.Prelude.{List, ℕ, ◌<◌}
use Rattle.definitions.specs.Lists.{total, count}
use Rattle.definitions.specs.Graph.{slot_limit, slot_count, Graph, graph_of, inputs_of, reads_of}
use Rattle.laws.specs.Counted.{Counted}
use Rattle.graph_fields.specs.Layout.{ReadableGraph, Closed, OutputsNamed}

-- how many input places of the slots below k name slot v
abbrev pub reads_below : Graph → ℕ → ℕ → ℕ
reads_below g k v = total (λ w. count v (inputs_of g w)) k

-- a block whose input and output places name slots
pub record CountableGraph (block : List ℕ) : Type 0 where
  pub readable : ReadableGraph block
  pub closed : Closed block
  pub outputs : OutputsNamed block

-- the input places of the slots below k are counted, and those of slot k are next
pub record InputsNext (block : List ℕ) (k : ℕ) (uses : List ℕ) : Type 0 where
  pub readable : ReadableGraph block
  pub closed : Closed block
  pub slot : k < slot_count block
  pub counted : Counted slot_limit (reads_below (graph_of block) k) uses

-- all input places are counted, and the output places are next
pub record OutputsNext (block uses : List ℕ) : Type 0 where
  pub readable : ReadableGraph block
  pub outputs : OutputsNamed block
  pub counted : Counted slot_limit (reads_of (graph_of block)) uses
