-- The arrays of a squeeze's moves, and what has to be there for places to be renamed by it.
-- Assumes nothing.
use Rattle.std.specs.Prelude.{◌≡◌, List, ℕ, ◌<◌, ◌≤◌, length, get_or}
use Rattle.definitions.specs.Graph.{slot_limit, input_limit, unused_place, Slot, Graph}
use Rattle.definitions.specs.Squeeze.{vertices_of, moved_to}
use Rattle.graph_records.specs.declared.Record.{Record}
use Rattle.graph_records.specs.Records.{Stands}

-- what stands in an array at place v
abbrev pub name_in : List ℕ → ℕ → ℕ
name_in to v = get_or to v unused_place

-- `count` vertices, which `from` lists, and in `to` a new number for each of the first n slots
pub record Moving (g : Graph) (n count : ℕ) (from to : List ℕ) : Type 0 where
  pub counted : count ≡ length (vertices_of g)
  pub from_size : length from ≡ slot_limit
  pub to_size : length to ≡ slot_limit
  pub listed : (k : ℕ) → k < count → name_in from k ≡ get_or (vertices_of g) k unused_place
  pub each : (v : ℕ) → v < n → name_in to v ≡ moved_to g v

-- places that can be looked up in such an array
abbrev pub Renamable : List ℕ → Type 0
Renamable places = (i : ℕ) → i < length places → get_or places i unused_place < slot_limit

-- a record that stands for a slot which reads slots
pub record NamesSlots (r : Record) : Type 0 where
  pub slot : Slot
  pub stands : Stands r slot
  pub few : length slot.inputs ≤ input_limit
  pub named : Renamable slot.inputs
