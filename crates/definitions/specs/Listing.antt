-- Request 7/13: "Write a graph as text and read it back." The listing of a graph, the graph of a sheet, the place at which a text stops being
-- a listing, and the two operations.
-- Assumes nothing.
use Rattle.std.specs.Prelude.{◌≡◌, cond, List, [], ◌∷◌, ◌++◌, map, ℕ, suc, ◌<◌, eqb, leb, pos, length, take, drop, Ok, Err}
use Rattle.definitions.specs.Lists.{tabulate, filter, range}
use Rattle.definitions.specs.Fields.{signed, word_of}
use Rattle.definitions.specs.Reply.{Reply, short_text, bad_listing, unsound_listing, bad_graph_length, done, refused, refused_at, where_done}
use Rattle.definitions.specs.Graph.{Slot, Graph, record_at, empty_slot, slot_of, is_vertex, graph_of, graph_block, graph_reply}
use Rattle.definitions.specs.Sheet.{Line, Sheet, SheetFits, printed}

-- ---- a graph and its sheet

unfoldable pub line_of : Graph → ℕ → Line
line_of g v = record {
  slot = v;
  kind = (slot_of g v).kind;
  operator = (slot_of g v).operator;
  inputs = map pos (slot_of g v).inputs;
  attributes = map signed (slot_of g v).attributes;
}

-- "Slots ascend, Empty ones are omitted"
unfoldable pub sheet_of : Graph → Sheet
sheet_of g = record {
  size = length g.slots;
  lines = map (line_of g) (filter (is_vertex g) (range 0 (length g.slots)));
  outputs = map pos g.outputs;
}

-- the listing of a graph
unfoldable pub listing : Graph → List ℕ
listing g = printed (sheet_of g)

-- the slot that a line gives
unfoldable pub slot_line : Line → Slot
slot_line l = record {
  kind = l.kind;
  operator = l.operator;
  inputs = map word_of l.inputs;
  attributes = map word_of l.attributes;
}

-- slot k by the lines: Empty where none is for k
unfoldable pub slot_in : List Line → ℕ → Slot
slot_in [] k = empty_slot
slot_in (l ∷ lines) k = let rest = slot_in lines k in cond (eqb l.slot k) (slot_line l) rest

unfoldable pub graph_in : Sheet → Graph
graph_in s = record { slots = tabulate s.size (slot_in s.lines); outputs = map word_of s.outputs }

-- ---- what it is to begin a listing, and the place of 44

-- some listing of the shape begins with this text
abbrev pub Begins : List ℕ → Type 0
Begins text = (s : Sheet) × SheetFits s × ((rest : List ℕ) × (printed s ≡ text ++ rest))

-- "the place of the first byte at which no listing can go on, or the text's length where it ends early": the bytes before it begin a listing,
-- and with it they do not; or the whole text begins one and is none.
pub data Stops (text : List ℕ) : ℕ → Type 0 where
  bad_byte : {at : ℕ} → at < length text → Begins (take at text) → (Begins (take (suc at) text) → ⊥) → Stops text at
  early : Begins text → ((s : Sheet) → SheetFits s → printed s ≡ text → ⊥) → Stops text (length text)

-- ---- writing: the graph's faults, 43, or the text's length

unfoldable pub write_reply : List ℕ → List ℕ → Reply
write_reply graph text = elim (graph_reply graph) [
  | Err why ↦ Err why
  | Ok value ↦
      let size = length (listing (graph_of graph)) in
      cond (leb size (length text)) (Ok size) (refused short_text)
]

-- what stands in the lent text at the return: the listing, and "the rest of the buffer" as it came
unfoldable pub write_text : List ℕ → List ℕ → List ℕ
write_text graph text =
    let words = listing (graph_of graph) in
    where_done (write_reply graph text) (words ++ drop (length words) text) text

-- ---- reading: 44, 45, 46, or done

-- once the text is the listing of a sheet: "45 unsound graph, 46 graph buffer not exactly 24 + 48N bytes, in that order". The block of the
-- sheet's graph has true counts.
unfoldable pub sheet_reply : Sheet → List ℕ → Reply
sheet_reply s graph = elim (graph_reply (graph_block (graph_in s))) [
  | Err why ↦ refused unsound_listing
  | Ok value ↦ cond (eqb (length graph) (record_at s.size)) done (refused bad_graph_length)
]

-- The reply for a text and a lent graph, and what stands in the lent graph at the return. It is proved that for each text and graph there is
-- exactly one such pair.
pub data ReadListing (text graph : List ℕ) : Reply → List ℕ → Type 0 where
  no_listing : {at : ℕ} → Stops text at → ReadListing text graph (refused_at bad_listing at) graph
  some_listing : (s : Sheet) → SheetFits s → printed s ≡ text
      → ReadListing text graph (sheet_reply s graph) (where_done (sheet_reply s graph) (graph_block (graph_in s)) graph)
