-- What the code's lines stand for.
-- Assumes nothing.
use Rattle.std.specs.Prelude.{◌≡◌, List, ℕ, ◌≤◌, ◌<◌, ℤ, length, get_or, take}
use Rattle.std.specs.declared.result.Result.{Result}
use Rattle.std.specs.declared.result.Result.TheVariants.{Ok, Err}
use Rattle.definitions.specs.Lists.{padded}
use Rattle.definitions.specs.Graph.{input_limit, attribute_limit, unused_place}
use Rattle.definitions.specs.Sheet.{Line, Sheet}
use Rattle.definitions.specs.Listing.{slot_line}
use Rattle.graph_records.specs.declared.Record.{Record}
use Rattle.graph_records.specs.Records.{Stands}
use Rattle.listing.specs.Typing.{got}
use Rattle.listing.specs.Forms.{Form}
use Rattle.listing.specs.Grammar.{lists_form, line_form}
use Rattle.listing.specs.Parts.{PartRead}
use Rattle.listing_numbers.specs.declared.Stopped.{Stopped}
use Rattle.listing_numbers.specs.Stops.{StopsAt}
use Rattle.listing_lists.specs.declared.Numbers.{Numbers}
use Rattle.listing_lists.specs.Lists.{list_limit}
use Rattle.listing_lines.specs.declared.SlotLine.{SlotLine}

abbrev pub line_with : ℕ → ℕ → ℕ → List ℤ → List ℤ → Line
line_with slot kind operator inputs attributes =
    record { slot = slot; kind = kind; operator = operator; inputs = inputs; attributes = attributes }

-- every word is a 16-bit number
abbrev pub PlaceWords : List ℕ → Type 0
PlaceWords words = (i : ℕ) → get_or words i 0 < 65536

-- the lists of a line, and what they make of it; its slot is not known here, and stands as 0
abbrev pub lists_line : ℕ → ℕ → (Line → Form Sheet) → Form Sheet
lists_line kind operator f = lists_form kind operator (λ inputs attributes. f (line_with 0 kind operator inputs attributes))

-- a record's fields, from the words of two lists
pub record RecordOf (k o : ℕ) (names values : Numbers) (r : Record) : Type 0 where
  pub kind : r.kind ≡ k
  pub operator : r.operator ≡ o
  pub n : r.n ≡ names.count
  pub m : r.m ≡ values.count
  pub inputs : r.inputs ≡ padded list_limit unused_place (take names.count names.words)
  pub attributes : r.attributes ≡ values.words

-- this line is read as a part of a listing: whatever follows it, the answer goes on behind it; and the record is that of the line's slot
pub record LineOf (part : (Line → Form Sheet) → Form Sheet) (number : ℕ) (text : List ℕ) (at : ℕ) (r : SlotLine) : Type 0 where
  pub line : Line
  pub slot : line.slot ≡ number
  pub goes : PartRead part text at (got line r.next)
  pub stands : Stands r.record (slot_line line)
  pub places : (length r.record.inputs ≡ input_limit) × (length r.record.attributes ≡ attribute_limit)
  pub next : r.next ≤ length text

-- A line is read as a part of a listing: whatever follows it, the answer stops where the line does, or goes on behind it; and the record is
-- that of the line's slot.
abbrev pub LineRead : ((Line → Form Sheet) → Form Sheet) → ℕ → List ℕ → ℕ → Result SlotLine Stopped → Type 0
LineRead part number text at (Ok r) = LineOf part number text at r
LineRead part number text at (Err e) = StopsAt part text at e

-- the same, for every number that the slot may have
abbrev pub AnyLineRead : List ℕ → ℕ → Result SlotLine Stopped → Type 0
AnyLineRead text at r = (number : ℕ) → LineRead (line_form number) number text at r
