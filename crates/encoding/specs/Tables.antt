-- What the theorems about the block of a graph ask of the graph, without its bytes.
-- Assumes nothing.
use Rattle.std.specs.Prelude.{◌≡◌, Bool, true, not, ◌&&◌, ◌||◌, ℕ, ◌<◌, ◌≤◌, ◌^◌, eqb, length, get_or}
use mathlib.Core.List.{Memᴰ}
use Rattle.definitions.specs.Lists.{within}
use Rattle.definitions.specs.Fields.{signed}
use Rattle.definitions.specs.Operators.{kind_proj, shape_fits}
use Rattle.definitions.specs.Paths.{Reads}
use Rattle.definitions.specs.Graph.{slot_limit, output_limit, input_limit, attribute_limit, unused_place, Slot, Graph, slot_of, inputs_of, is_vertex, at_least_one}

-- a slot follows its kind: the tables' counts, and a Proj's index
unfoldable pub slot_fits : Slot → Bool
slot_fits s =
    shape_fits s.kind s.operator (length s.inputs) (length s.attributes)
    && (not (eqb s.kind kind_proj) || at_least_one (signed (get_or s.attributes 0 0)))

-- a sound graph, but for a cycle and for the size of its attributes
pub record Table (g : Graph) : Type 0 where
  pub size : within 1 (length g.slots) slot_limit ≡ true
  pub output_count : within 1 (length g.outputs) output_limit ≡ true
  pub shapes : (k : ℕ) → k < length g.slots → slot_fits (slot_of g k) ≡ true
  pub inputs : (k v : ℕ) → Reads (inputs_of g) k v → is_vertex g v ≡ true
  pub outputs : (v : ℕ) → Memᴰ v g.outputs → is_vertex g v ≡ true

-- a graph that a block can hold, sound or not: no count is above its limit, and each place is a 16-bit number
pub record Holdable (g : Graph) : Type 0 where
  pub slots : length g.slots ≤ slot_limit
  pub outputs : length g.outputs ≤ output_limit
  pub inputs : (k : ℕ) → k < length g.slots → length (inputs_of g k) ≤ input_limit
  pub attributes : (k : ℕ) → k < length g.slots → length (slot_of g k).attributes ≤ attribute_limit
  pub input_places : (k i : ℕ) → i < length (inputs_of g k) → get_or (inputs_of g k) i unused_place < 65536
  pub output_places : (i : ℕ) → i < length g.outputs → get_or g.outputs i unused_place < 65536

-- every attribute is a 32-bit word
abbrev pub Words : Graph → Type 0
Words g = (k : ℕ) → k < length g.slots → (w : ℕ) → Memᴰ w (slot_of g k).attributes → w < 2 ^ 32
